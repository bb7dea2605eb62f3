mod Callee
mod Reading
pub mod Showing
mod Values
