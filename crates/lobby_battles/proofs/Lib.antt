pub mod Agreed
pub mod Users
pub mod Knowing
pub mod Base
pub mod Newcomer
pub mod RoomLines
pub mod Written
