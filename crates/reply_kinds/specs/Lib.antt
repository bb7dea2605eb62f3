pub mod Keeping
pub mod Kinds
pub mod Opened
pub mod Replies
