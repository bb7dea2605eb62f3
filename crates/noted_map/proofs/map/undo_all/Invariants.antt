use Rattle.std.proofs.Common.{◌≡◌}
use Rattle.noted_map.specs.Notes.{undone}
use Rattle.noted_map.proofs.map.undo_all.Given as goal

abbrev pub invariant-loop-key : goal.invariant-loop-key
invariant-loop-key g l =
    undone g.K.Ord.cmp g.U.Undo.back l.notes.items l.slots ≡ undone g.K.Ord.cmp g.U.Undo.back l.initial.notes.items l.initial.slots

abbrev pub decreases-loop-key : goal.decreases-loop-key
decreases-loop-key g l = goal.left-loop-key g l
