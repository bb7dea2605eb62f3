use Rattle.std.proofs.Common.{◌∙◌, ap, sym, length}
use Rattle.noted_map.specs.Slots.{live}
use Rattle.noted_map.proofs.SlotLaws.{count-edit, either_way}
use Rattle.noted_map.proofs.slots.Slots.edit_noted.Goals as goal

pub invariant_of-self : goal.invariant_of-self
invariant_of-self g c =
    c.self.invariant
    ∙ sym (either_way c.edit_at_noted.result (λ changed. count-edit g.K.Ord.cmp (g.E.Edit.after c.args.edit) c.self.inside.places.entries c.edit_at_noted.new.places.entries c.args.key.now changed)
    (λ stays. ap (λ es. length (live es)) stays) c.edit_at_noted.ensures.ok c.edit_at_noted.ensures.err)
