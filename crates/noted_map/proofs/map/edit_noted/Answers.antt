use Rattle.std.proofs.Common.{◌∙◌, ap, refl}
use Rattle.noted_map.specs.Slots.{live}
use Rattle.noted_map.specs.declared.note.Note.TheVariants.{Part}
use Rattle.noted_map.proofs.SlotLaws.{live-edited, undone_noted, of_match}
use Rattle.noted_map.proofs.map.edit_noted.Goals as goal

pub returns-in-Some-clause-ok : goal.returns-in-Some-clause-ok
returns-in-Some-clause-ok g c = ap live c.in_ok-undo.ensures.ok ∙ live-edited g.K.Ord.cmp (g.E.Edit.after c.args.edit) c.args.slots.now c.args.key.now

pub returns-in-Some-clause-before : goal.returns-in-Some-clause-before
returns-in-Some-clause-before g c =
    rw (c.note.ensures, c.in_ok-reserve.ensures.items, c.again.ensures)
    (undone_noted g.K.Ord.cmp g.U.Undo.back _ c.args.notes.now.items c.args.key.now (Part c.in-Some.undo) c.args.slots.now c.edit_noted.new.self refl (of_match _ _ _ _ c.in-Some.is c.in_ok-undo.ensures.undone))

pub returns-in_default-clause-ok : goal.returns-in_default-clause-ok
returns-in_default-clause-ok g c = ap live c.in_ok-undo.ensures.ok ∙ live-edited g.K.Ord.cmp (g.E.Edit.after c.args.edit) c.args.slots.now c.args.key.now
