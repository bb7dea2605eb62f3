pub mod Hash
pub mod Reading
pub mod Statuses
