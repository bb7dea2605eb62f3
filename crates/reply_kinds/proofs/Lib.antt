pub mod Bytes
pub mod Decimals
pub mod Table
pub mod Plain
pub mod Examples
