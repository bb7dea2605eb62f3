pub mod Account
pub mod Book
pub mod Entries
pub mod Fields
pub mod File
pub mod Password
