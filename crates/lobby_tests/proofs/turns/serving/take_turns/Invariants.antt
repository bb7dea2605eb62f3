use Rattle.std.proofs.Common.{◌≡◌}
use Rattle.lobby_tests.proofs.turns.serving.take_turns.Given as goal

abbrev pub invariant-loop : goal.invariant-loop
invariant-loop g l = (l.pass.desk ≡ l.desk) × (l.pass.worker.number ≡ l.fn.pass.worker.number)
