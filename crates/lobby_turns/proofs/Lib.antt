pub mod Meanwhile
pub mod Receivings
pub mod Sendings
pub mod Served
pub mod Turns
