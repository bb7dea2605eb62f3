-- The lists of changed clients are those of the maps.
pub use Rattle.lobby_maps.specs.Dirty.{DirtyAfter, changes, is_changed, those_there}
