pub mod Files
pub mod Joined
pub mod Steps
pub mod Replays
pub mod Leaving
