use Rattle.std.proofs.Common.{◌≡◌}
use Rattle.lobby_connections.specs.Attended.{KeepsAttended}
use Rattle.lobby_connections.specs.Told.{told}
use Rattle.worker_loop.proofs.worker.WorkerLoop.look_into_inbox.Given as goal

abbrev pub invariant-loop : goal.invariant-loop
invariant-loop g l =
    (l.pass.desk ≡ l.fn.pass.desk)
    × (l.pass.worker.number ≡ l.fn.pass.worker.number)
    × KeepsAttended l.fn.self.connections l.self.connections
    × (told l.self.lookout ≡ told l.fn.self.lookout)
