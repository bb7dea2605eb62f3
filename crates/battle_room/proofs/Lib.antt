pub mod Named
pub mod Numbered
pub mod Founding
