use Rattle.std.proofs.Common.{◌∙◌, ap}
use Rattle.noted_map.specs.Slots.{live}
use Rattle.noted_map.proofs.SlotLaws.{sorted_of, live-emptied, noted_emptied}
use Rattle.noted_map.proofs.map.remove_noted.Goals as goal

pub returns-clause-ok : goal.returns-clause-ok
returns-clause-ok g c = ap live c.write-was.ensures.now ∙ live-emptied g.K.Ord.cmp c.args.slots.now c.args.key.now

pub returns-clause-before : goal.returns-clause-before
returns-clause-before g c =
    rw (c.note.ensures, c.in_ok-reserve.ensures.items, c.again.ensures, c.note_of.ensures, c.write-was.ensures.was)
    (noted_emptied g.K.Ord.cmp g.U.Undo.back g.met.K.Ord.total g.met.K.Key.same c.args.notes.now.items c.args.slots.now c.write-was.new.self c.args.key.now (sorted_of g.K.Ord.cmp c.args.slots.now c.write-was.ensures.ordered) c.write-was.ensures.now)
