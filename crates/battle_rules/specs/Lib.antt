pub mod Answers
pub mod Opening
pub mod BattleTalk
pub mod RoomTalk
