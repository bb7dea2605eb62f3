use Rattle.std.proofs.Common.{◌≡◌}
use Rattle.lobby_connections.specs.Claims.{KeepsNotes}
use Rattle.lobby_connections.specs.Shared.{GoOn}
use Rattle.lobby_connections.proofs.sharing.speak_all.Given as goal

abbrev pub invariant-loop : goal.invariant-loop
invariant-loop g l =
    (l.pass.desk ≡ l.fn.pass.desk)
    × (l.pass.worker.number ≡ l.fn.pass.worker.number)
    × KeepsNotes l.fn.seats l.seats
    × GoOn l.fn.seats l.fn.pass l.fn.together l.seats l.pass l.together
