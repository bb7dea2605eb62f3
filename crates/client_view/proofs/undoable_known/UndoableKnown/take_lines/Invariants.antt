use Rattle.std.proofs.Common.{◌-◌, length}
use Rattle.client_view.proofs.Lines.{NotedLines}
use Rattle.client_view.proofs.undoable_known.UndoableKnown.take_lines.Given as goal

abbrev pub invariant-loop-end : goal.invariant-loop-end
invariant-loop-end l = NotedLines l.bytes l.initial.self l.self l.taken l.count

abbrev pub decreases-loop-end : goal.decreases-loop-end
decreases-loop-end l = length l.bytes - l.taken
