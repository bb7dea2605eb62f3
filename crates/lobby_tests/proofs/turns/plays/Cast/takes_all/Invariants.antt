use Rattle.std.proofs.Common.{◌≡◌}
use Rattle.lobby_tests.proofs.turns.plays.Cast.takes_all.Given as goal

abbrev pub invariant-loop-step : goal.invariant-loop-step
invariant-loop-step g l = (l.pass.desk ≡ l.desk) × (l.pass.worker.number ≡ l.fn.pass.worker.number)
