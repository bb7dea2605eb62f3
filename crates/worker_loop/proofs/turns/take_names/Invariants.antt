use Rattle.std.proofs.Common.{◌≡◌}
use Rattle.lobby_connections.specs.Attended.{KeepsAttended}
use Rattle.worker_loop.proofs.turns.take_names.Given as goal

abbrev pub invariant-loop : goal.invariant-loop
invariant-loop g l =
    (l.pass.desk ≡ l.fn.pass.desk) × (l.pass.worker.number ≡ l.fn.pass.worker.number) × KeepsAttended l.fn.connections l.connections
