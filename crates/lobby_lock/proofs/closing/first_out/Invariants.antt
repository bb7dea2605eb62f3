use Rattle.std.proofs.Common.{◌≡◌, ℕ, ◌<◌, ◌≤◌, Some, None}
use Rattle.std.specs.Prelude.{slice_get}
use Rattle.lobby_lock.proofs.closing.first_out.Given as goal

abbrev pub invariant-loop-number : goal.invariant-loop-number
invariant-loop-number l = (k : ℕ) → 1 ≤ k → k < l.number → slice_get l.places k ≡ Some None → ⊥
