use Rattle.std.proofs.Common.{◌≡◌, ℕ, ◌<◌, length}
use Rattle.lobby_connections.specs.Claims.{KeepsNotes, claims_of}
use Rattle.lobby_connections.specs.Shared.{GoOn, IsHad}
use Rattle.lobby_connections.proofs.sharing.finish_all.Given as goal

abbrev pub invariant-loop-place : goal.invariant-loop-place
invariant-loop-place g l =
    (l.pass.desk ≡ l.fn.pass.desk)
    × (l.pass.worker.number ≡ l.fn.pass.worker.number)
    × KeepsNotes l.fn.seats l.seats
    × GoOn l.fn.seats l.fn.pass l.fn.together l.seats l.pass l.together
    × (length l.buffers.items ≡ length l.fn.buffers.items)
    × ((place : ℕ) → place < l.place → IsHad (claims_of l.fn.seats) l.together place)
