pub use Rattle.lobby_holds.specs.Wire
pub use Rattle.lobby_holds.specs.Holds
pub mod Receiving
pub mod Sending
pub mod Turned
