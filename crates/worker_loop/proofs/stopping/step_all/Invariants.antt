use Rattle.std.proofs.Common.{◌≡◌}
use Rattle.worker_loop.proofs.stopping.step_all.Given as goal

abbrev pub invariant-loop-key : goal.invariant-loop-key
invariant-loop-key g l = (l.pass.desk ≡ l.fn.pass.desk) × (l.pass.worker.number ≡ l.fn.pass.worker.number)
