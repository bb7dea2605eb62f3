use Rattle.std.proofs.Common.{◌∙◌, sym}
use Rattle.noted_map.proofs.SlotLaws.{count-edit}
use Rattle.noted_map.proofs.slots.Slots.undo.Goals as goal

pub invariant_of-self : goal.invariant_of-self
invariant_of-self g c =
    c.self.invariant ∙ sym (count-edit g.K.Ord.cmp (g.U.Undo.back c.args.undo) c.self.inside.places.entries c.undo_at.new.places.entries c.args.key.now c.undo_at.ensures)
