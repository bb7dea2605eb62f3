use Rattle.std.proofs.Common.{◌≡◌}
use Rattle.lobby_lock.specs.Passes.{pass_after}
use Rattle.lobby_connections.specs.Claims.{KeepsNotes}
use Rattle.lobby_connections.specs.Shared.{GoOn}
use Rattle.lobby_connections.proofs.sharing.speak_from.Given as goal

abbrev pub invariant-loop-place : goal.invariant-loop-place
invariant-loop-place g l =
    (l.held.pass ≡ l.fn.held.pass)
    × KeepsNotes l.fn.seats l.seats
    × GoOn l.fn.seats (pass_after l.fn.held) l.fn.together l.seats (pass_after l.held) l.together
