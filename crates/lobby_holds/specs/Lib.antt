pub mod Wire
pub mod Moments
pub mod Snapshot
pub mod Went
pub mod Talk
pub mod Holds
