-- What contracts see of a lobby is what they see of its maps, and what its calls promise has the same words.
pub use Rattle.lobby_maps.specs.Shown.{Shown, dirty_at, unread_of, is_finished, unread_in, is_over}
pub use Rattle.lobby_maps.specs.Calls.{Applies, ListsTouched, Opens, IsNextNumber, ListsOpened, IsFull, HasNoNumber}
pub use Rattle.lobby_maps.specs.Calls.{count_into, filled, TakesFirst, KeepsOthers}
