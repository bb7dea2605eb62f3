use Rattle.std.proofs.Common.{◌≡◌, ℕ, ◌<◌, true}
use Rattle.std.specs.List.{Contains}
use Rattle.lobby_post.specs.Mask.{has_home}
use Rattle.lobby_connections.proofs.wakers.Wakers.wake_others.Given as goal

abbrev pub invariant-loop-worker : goal.invariant-loop-worker
invariant-loop-worker l = (worker : ℕ) → worker < l.worker → worker < 64 → (worker ≡ l.waking → ⊥) → has_home l.wakes worker ≡ true → Contains l.rung worker
