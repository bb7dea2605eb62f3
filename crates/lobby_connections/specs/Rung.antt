-- How many workers can be woken, and who was.
use Rattle.std.specs.Prelude.{◌≡◌, ◌⊎◌, ◌<◌, ℕ, List, true, vec_len}
use Rattle.std.specs.List.{Contains}
use Rattle.lobby_post.specs.Mask.{has_home}
use Rattle.lobby_connections.specs.Table.{Table}
use Rattle.lobby_connections.specs.declared.wakers.Wakers.{Wakers}

abbrev pub worker_count : Wakers → ℕ
worker_count wakers = vec_len wakers.signs

-- each other worker that was to be woken was rung, or is so still
abbrev pub IsRung : Table → Table → Wakers → ℕ → List ℕ → Type 0
IsRung old new wakers home rung = (worker : ℕ) → worker < worker_count wakers → worker < 64 → (worker ≡ home → ⊥)
    → has_home old.to_wake worker ≡ true → has_home new.to_wake worker ≡ true ⊎ Contains rung worker
