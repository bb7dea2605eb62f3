pub mod Lines
pub mod Known
