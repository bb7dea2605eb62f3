use Rattle.std.proofs.Common.{◌≡◌, length}
use Rattle.lobby_connections.specs.Claims.{KeepsNotes}
use Rattle.lobby_connections.specs.Joined.{keys_in}
use Rattle.lobby_connections.specs.Shared.{AllStand, Seats}
use Rattle.lobby_connections.proofs.sharing.gather_all.Given as goal

abbrev pub invariant-loop-place : goal.invariant-loop-place
invariant-loop-place g l =
    (l.pass ≡ l.fn.pass)
    × KeepsNotes l.fn.seats l.seats
    × (keys_in l.together ≡ keys_in l.fn.together)
    × (l.together.allowance ≡ l.fn.together.allowance)
    × (length l.buffers.items ≡ length l.fn.buffers.items)
    × ((first : Seats) → AllStand first l.fn.pass l.fn.seats l.fn.pass l.fn.together.allowance (keys_in l.fn.together) l.fn.together.standings
    → AllStand first l.fn.pass l.seats l.fn.pass l.fn.together.allowance (keys_in l.together) l.together.standings)
