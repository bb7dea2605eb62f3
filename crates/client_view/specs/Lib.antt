pub mod Battles
pub mod Following
pub mod Kept
pub mod Names
pub mod Refused
pub mod Told
