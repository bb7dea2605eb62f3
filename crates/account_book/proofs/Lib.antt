pub mod Countries
pub mod Index
pub mod Listed
