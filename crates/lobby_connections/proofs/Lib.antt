pub mod Lines
pub mod Notes
pub mod Standings
pub mod Told
