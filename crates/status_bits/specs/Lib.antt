pub mod Fields
pub mod UserWord
pub mod BattleWord
