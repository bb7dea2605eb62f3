use Rattle.std.proofs.Common.{◌∙◌, ap}
use Rattle.std.specs.Prelude.{None}
use Rattle.std.specs.Option.{option_flatten}
use Rattle.noted_map.proofs.SlotLaws.{found_live}
use Rattle.noted_map.proofs.slots.Slots.get.Goals as goal

pub returns-in-Some : goal.returns-in-Some
returns-in-Some g c =
    found_live g.K.Ord.cmp g.met.K.Ord.total c.self.inside.places.entries c.args.self.now c.args.key.now _ c.self.view_is c.len.ensures.ordered
    (c.as_ref.ensures.value ∙ ap option_flatten c.in-Some.ensures.value)

pub returns-in-None : goal.returns-in-None
returns-in-None g c =
    found_live g.K.Ord.cmp g.met.K.Ord.total c.self.inside.places.entries c.args.self.now c.args.key.now None c.self.view_is c.len.ensures.ordered
    (ap option_flatten c.in-None.ensures.value)
