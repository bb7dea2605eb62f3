pub mod View
pub mod Bytes
pub mod Observe
pub mod Legal
pub mod Private
