pub mod Words
pub mod Routes
pub mod Lines
pub mod Steps
pub mod Sets
