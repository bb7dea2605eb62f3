pub mod History
pub mod Counts
pub mod Rule
pub mod Events
pub mod Passes
pub mod Closing
