pub mod Lively
pub mod Found
pub mod Placed
pub mod Sets
