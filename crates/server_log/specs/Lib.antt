pub mod Fields
pub mod Levels
pub mod Lines
