use Rattle.std.proofs.Common.{◌≡◌}
use Rattle.noted_map.specs.Slots.{live}
use Rattle.noted_map.proofs.map.sweep.Given as goal

abbrev pub invariant-loop-key : goal.invariant-loop-key
invariant-loop-key g l = live l.slots ≡ live l.initial.slots

abbrev pub decreases-loop-key : goal.decreases-loop-key
decreases-loop-key g l = goal.left-loop-key g l
