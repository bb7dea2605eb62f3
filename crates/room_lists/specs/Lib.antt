pub mod Room
pub mod Keyed
pub mod Tags
pub mod Units
pub mod Index
