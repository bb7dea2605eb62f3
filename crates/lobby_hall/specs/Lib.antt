pub mod ByClient
pub mod Record
pub mod Copied
pub mod Standing
pub mod Wanting
pub mod Schedules
pub mod Following
