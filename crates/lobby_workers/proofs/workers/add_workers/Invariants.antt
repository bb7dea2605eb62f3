use Rattle.std.proofs.Common.{◌≡◌}
use Rattle.std.specs.List.{All}
use Rattle.lobby_workers.proofs.workers.add_workers.Given as goal

abbrev pub invariant-loop : goal.invariant-loop
invariant-loop g l = (l.pass.desk ≡ l.desk) × (l.pass.worker.number ≡ 0) × All (λ worker. worker.pass.desk ≡ l.desk) l.workers.items
