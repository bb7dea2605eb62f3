pub mod OwnChannels
pub mod Alone
pub mod Spoken
pub mod Events
pub mod Leaves
pub mod Members
pub mod Talked
pub mod Logins
