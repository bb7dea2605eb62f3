pub use Rattle.worker_loop.specs.Wire
pub mod Statuses
