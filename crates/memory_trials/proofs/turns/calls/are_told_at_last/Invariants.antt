use Rattle.std.proofs.Common.{◌≡◌}
use Rattle.memory_trials.proofs.turns.calls.are_told_at_last.Given as goal

abbrev pub invariant-loop-number : goal.invariant-loop-number
invariant-loop-number g l = l.pass.desk ≡ l.desk
