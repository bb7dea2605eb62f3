pub mod Obeying
pub mod InBattles
pub mod Founders
pub mod Joins
pub mod Forced
