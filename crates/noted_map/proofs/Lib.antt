pub mod Changing
pub mod SlotLaws
