pub mod Parts
pub mod Readings
pub mod SocketAddresses
pub mod Texts
pub mod Sources
pub mod Ends
pub mod Examples
