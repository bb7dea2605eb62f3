pub mod Channels
pub mod Book
pub mod Places
pub mod Kept
