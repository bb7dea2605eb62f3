pub mod Undoable
pub mod Slots
pub mod Notes
