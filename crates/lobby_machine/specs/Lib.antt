pub mod Shown
pub mod Dirty
pub mod Talk
pub mod Work
pub mod Logins
