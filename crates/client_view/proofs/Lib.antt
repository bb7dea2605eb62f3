pub mod Changing
pub mod Ended
pub mod FirstNames
pub mod Follows
pub mod Feeding
pub mod Lines
pub mod NthKey
pub mod Read
