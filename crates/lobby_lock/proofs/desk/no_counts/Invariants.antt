use Rattle.std.proofs.Common.{◌≡◌, ℕ, ◌<◌, ◌≤◌, length, Some, None}
use Rattle.std.specs.Prelude.{slice_get, vec_capacity}
use Rattle.lobby_lock.proofs.desk.no_counts.Given as goal

abbrev pub invariant-loop : goal.invariant-loop
invariant-loop l = (length l.places.items ≡ l.counter) × (64 ≤ vec_capacity l.places) × ((k : ℕ) → k < l.counter → slice_get l.places.items k ≡ Some None)
