pub mod FirstFault
pub mod Places
