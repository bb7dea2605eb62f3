use Rattle.std.proofs.Common.{◌∙◌, ap}
use Rattle.noted_map.specs.Slots.{live}
use Rattle.noted_map.proofs.SlotLaws.{sorted_of, live-put, noted_put}
use Rattle.noted_map.proofs.map.put_noted.Goals as goal

pub returns-clause-ok : goal.returns-clause-ok
returns-clause-ok g c =
    ap live c.in_ok-was.ensures.ok ∙ live-put g.K.Ord.cmp g.met.K.Ord.total g.met.K.Key.same c.args.slots.now c.args.key c.args.value (sorted_of g.K.Ord.cmp c.args.slots.now c.in_ok-was.ensures.ordered)

pub returns-clause-before : goal.returns-clause-before
returns-clause-before g c =
    rw (c.note.ensures, c.in_ok-reserve.ensures.items, c.again-again.ensures, c.note_of.ensures, c.in_ok-was.ensures.was)
    (noted_put g.K.Ord.cmp g.U.Undo.back g.met.K.Ord.total g.met.K.Key.same c.args.notes.now.items c.args.slots.now c.put.new.self c.args.key c.args.value (sorted_of g.K.Ord.cmp c.args.slots.now c.in_ok-was.ensures.ordered) c.in_ok-was.ensures.ok)
