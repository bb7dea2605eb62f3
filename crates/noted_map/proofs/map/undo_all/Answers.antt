use Rattle.std.proofs.Common.{◌∙◌}
use Rattle.noted_map.proofs.SlotLaws.{undone_popped}
use Rattle.noted_map.proofs.map.undo_all.Goals as goal

pub loop-key-preserved : goal.loop-key-preserved
loop-key-preserved g c =
    undone_popped g.K.Ord.cmp g.U.Undo.back c.loop-key.notes.items c.pop.new.self.items c.in-Some.key c.in-Some.was c.loop-key.slots c.undo.new.slots c.in-Some.ensures.items c.undo.ensures
    ∙ c.loop-key.invariant
