use Rattle.std.proofs.Common.{◌≡◌, []}
use Rattle.lobby_connections.specs.Attended.{IsAttended}
use Rattle.worker_loop.proofs.worker.go_round_until_stopped.Given as goal

abbrev pub invariant-loop : goal.invariant-loop
invariant-loop g l =
    (l.pass.desk ≡ l.fn.pass.desk) × (l.pass.worker.number ≡ l.fn.pass.worker.number) × IsAttended l.worker_loop.connections []
