use Rattle.std.proofs.Common.{◌≡◌, ◌+◌, ◌-◌, take, drop, sym, ap, subst, refl, ◌∙◌, ◌∷◌, arith, ℕ, length, length-take, length-drop}
use Rattle.std.specs.Prelude.{map}
use Rattle.line_framer.specs.Frames.{without_cr, rest_of, lines_in}
use Rattle.line_framer.specs.Buffered.{IsBuffered, IsFirstEnd}
use Rattle.line_framer.proofs.Buffer.{some_next, first_is_whole, lines_first, rest_first, left}
use Rattle.line_framer.proofs.Stands.{stands_dropped}
use Rattle.line_framer.proofs.Framer.drop_line.Goals as goal

pub unwrap-size-requires : goal.unwrap-size-requires
unwrap-size-requires c = some_next c.self.inside.ahead.bytes c.self.inside.next c.self.invariant.next_end (rw (← c.self.view_is) at c.requires)

pub overflow_add-size : goal.overflow_add-size
overflow_add-size c = omega (arith, first_is_whole c.unwrap-size.ensures c.self.invariant)

pub consume-requires : goal.consume-requires
consume-requires c = omega (arith, first_is_whole c.unwrap-size.ensures c.self.invariant, c.self.invariant.within)

pub overflow_sub-self : goal.overflow_sub-self
overflow_sub-self c = first_is_whole c.unwrap-size.ensures c.self.invariant

pub slice_bounds-first_end-end : goal.slice_bounds-first_end-end
slice_bounds-first_end-end c =
    omega (arith, c.self.invariant.within, ap length (c.as_slice.ensures ∙ c.release.ensures.bytes ∙ c.consume.ensures.bytes), length-take {A = ℕ}, length-drop {A = ℕ})

pub invariant_of-self : goal.invariant_of-self
invariant_of-self c =
    let f = c.self.inside in
    let whole = f.whole - (c.unwrap-size.result + 1) in
    let later : c.release.new.self.bytes ≡ drop (c.unwrap-size.result + 1) f.ahead.bytes = c.release.ensures.bytes ∙ c.consume.ensures.bytes in
    let found = subst (λ xs. IsFirstEnd (take whole xs) c.first_end-self-inside.result) (c.as_slice.ensures ∙ later) c.first_end-self-inside.ensures in
    subst (λ xs. IsBuffered xs c.first_end-self-inside.result whole f.limit) (sym later) (left c.unwrap-size.ensures c.self.invariant found)

pub returns-clause-stands : goal.returns-clause-stands
returns-clause-stands c = λ bytes dropped.
    rw (← c.self.view_is) (λ s.
    let line = take c.unwrap-size.result c.self.inside.ahead.bytes in
    let later = sym (c.release.ensures.bytes ∙ c.consume.ensures.bytes) in
    stands_dropped _ bytes dropped _ line s refl refl (lines_first c.unwrap-size.ensures c.self.invariant ∙ ap (λ xs. line ∷ lines_in xs) later)
    (rest_first c.unwrap-size.ensures c.self.invariant ∙ ap rest_of later))

pub returns-clause-lines : goal.returns-clause-lines
returns-clause-lines c =
    rw (← c.self.view_is) (
    ap (λ xs. map without_cr (lines_in xs)) (c.release.ensures.bytes ∙ c.consume.ensures.bytes)
    ∙ sym (ap (λ ls. drop 1 (map without_cr ls)) (lines_first c.unwrap-size.ensures c.self.invariant)))
