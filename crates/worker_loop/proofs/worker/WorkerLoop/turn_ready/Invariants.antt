use Rattle.std.proofs.Common.{◌≡◌, ◌<◌, ◌++◌, drop, length}
use Rattle.lobby_connections.specs.Attended.{IsAttended}
use Rattle.lobby_connections.specs.Joined.{keys_in}
use Rattle.lobby_connections.specs.Told.{keys_of}
use Rattle.worker_loop.proofs.worker.WorkerLoop.turn_ready.Given as goal

abbrev pub invariant-loop-event : goal.invariant-loop-event
invariant-loop-event g l =
    (l.pass.desk ≡ l.fn.pass.desk)
    × (l.pass.worker.number ≡ l.fn.pass.worker.number)
    × (length (keys_in l.together) < 32)
    × (IsAttended l.fn.self.connections (keys_of l.events) → IsAttended l.connections (keys_in l.together ++ keys_of (drop l.event-index l.events)))
