use Rattle.std.proofs.Common.{◌∙◌, ap, arith}
use Rattle.noted_map.specs.Slots.{coming}
use Rattle.noted_map.proofs.slots.Slots.write.Goals as goal

pub overflow_sub-self : goal.overflow_sub-self
overflow_sub-self g c =
    omega (arith, c.write_at-was.ensures.count, c.coming_to-comes.ensures.value ∙ ap (coming c.write_at-was.result) c.one_of-more.ensures.value, c.one_of_place-goes.ensures.value, c.self.invariant)

pub invariant_of-self : goal.invariant_of-self
invariant_of-self g c =
    omega (arith, c.write_at-was.ensures.count, c.coming_to-comes.ensures.value ∙ ap (coming c.write_at-was.result) c.one_of-more.ensures.value, c.one_of_place-goes.ensures.value, c.self.invariant)
