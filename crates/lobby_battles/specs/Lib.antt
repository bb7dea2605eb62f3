pub mod Info
pub mod Battles
pub mod OnlineUsers
pub mod Recipients
pub mod BurstParts
