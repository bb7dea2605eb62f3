use Rattle.std.proofs.Common.{◌≡◌, ℕ, List, ◌++◌, drop}
use Rattle.lobby_connections.specs.Attended.{IsAttended}
use Rattle.lobby_connections.specs.Joined.{keys_in}
use Rattle.worker_loop.proofs.turns.finish_all.Given as goal

abbrev pub invariant-loop-place : goal.invariant-loop-place
invariant-loop-place g l =
    (l.pass.desk ≡ l.fn.pass.desk)
    × (l.pass.worker.number ≡ l.fn.pass.worker.number)
    × (keys_in l.together ≡ keys_in l.fn.together)
    × ((rest : List ℕ) → IsAttended l.fn.connections (keys_in l.fn.together ++ rest) → IsAttended l.connections (drop l.place (keys_in l.fn.together) ++ rest))
