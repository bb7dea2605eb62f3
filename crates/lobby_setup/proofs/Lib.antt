pub mod Lines
pub mod Bounds
pub mod Endpoints
pub mod Addresses
pub mod FirstFault
