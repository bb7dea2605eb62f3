pub mod Serving
pub mod Sessions
pub mod OneSession
