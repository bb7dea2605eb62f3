use Rattle.std.proofs.Common.{◌∙◌, ap}
use Rattle.noted_map.specs.Slots.{live}
use Rattle.noted_map.proofs.SlotLaws.{live_swept}
use Rattle.noted_map.proofs.slots.Slots.sweep.Goals as goal

pub returns-in-Some-None : goal.returns-in-Some-None
returns-in-Some-None g c =
    ap live c.remove.ensures
    ∙ live_swept g.K.Ord.cmp g.met.K.Ord.total c.self.inside.places.entries c.args.self.now c.args.key.now c.self.view_is c.len.ensures.ordered (rw c.in-Some-None.field-0-is at c.in-Some-None.ensures.value)
