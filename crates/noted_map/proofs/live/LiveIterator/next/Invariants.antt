use Rattle.std.proofs.Common.{◌≡◌, length}
use Rattle.noted_map.specs.Slots.{live}
use Rattle.noted_map.proofs.live.LiveIterator.next.Given as goal

abbrev pub invariant-loop-key : goal.invariant-loop-key
invariant-loop-key g l = live l.self-inside.slots ≡ live l.initial.self-inside.slots

abbrev pub decreases-loop-key : goal.decreases-loop-key
decreases-loop-key g l = length l.self-inside.slots
