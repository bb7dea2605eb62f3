pub mod Escapes
pub mod Steps
pub mod Printed
pub mod Masks
pub mod Entries
pub mod Head
pub mod Played
pub mod Schedules
