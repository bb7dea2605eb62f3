use Rattle.std.proofs.Common.{◌≡◌}
use Rattle.memory_trials.proofs.turns.links.try_call.Given as goal

abbrev pub invariant-loop-step : goal.invariant-loop-step
invariant-loop-step g l = l.pass.desk ≡ l.desk
