use Rattle.std.proofs.Common.{refl, sym}
use Rattle.lobby_post.proofs.Cells.{contained, held-none, held-at, ordered_held, tied_written, held_written, lent_as}
use Rattle.lobby_post.proofs.slots.Slots.get_mut_at.Goals as goal

pub returns-in_err-slot : goal.returns-in_err-slot
returns-in_err-slot c =
    rw (c.from_residual.ensures, ← c.self.view_is) (
      refl,
      record {
        writes_back = tt;
        value = sym (held-none c.self.inside.cells c.self.inside.index.entries c.self.invariant c.args.key.number (sym c.in_err-slot.ensures));
        ordered = ordered_held c.self.inside.cells c.self.inside.index.entries c.self.invariant c.args.key.number;
      },
    )

pub index_mut-requires-2 : goal.index_mut-requires-2
index_mut-requires-2 c =
    contained c.self.inside.cells c.self.inside.index.entries c.self.invariant c.args.key.number c.in_ok-slot.slot (sym c.in_ok-slot.ensures)

pub invariant_of-self-lent-2 : goal.invariant_of-self-lent-2
invariant_of-self-lent-2 c = λ w.
    tied_written c.self.inside.cells c.self.inside.index.entries c.self.invariant c.args.key.number c.in_ok-slot.slot
    (sym c.in_ok-slot.ensures) w c.index_mut-2.result.now c.index_mut-2.ensures.value

pub returns : goal.returns
returns c =
    rw (← c.self.view_is) (
      lent_as _ _ _ (λ w. held_written c.self.inside.cells c.self.inside.index.entries c.self.invariant c.args.key.number c.in_ok-slot.slot
          (sym c.in_ok-slot.ensures) w c.index_mut-2.result.now c.index_mut-2.ensures.value),
      record {
        writes_back = tt;
        value = held-at c.self.inside.cells c.self.inside.index.entries c.self.invariant c.args.key.number c.in_ok-slot.slot
            (sym c.in_ok-slot.ensures) c.index_mut-2.result.now c.index_mut-2.ensures.value;
        ordered = ordered_held c.self.inside.cells c.self.inside.index.entries c.self.invariant c.args.key.number;
      },
    )

-- the likely slot
pub index_mut-requires : goal.index_mut-requires
index_mut-requires c =
    contained c.self.inside.cells c.self.inside.index.entries c.self.invariant c.args.key.number c.likely-likely.result
    (c.self.invariant.indexed c.args.key.number c.likely-likely.result (c.is_in.ensures.0 c.if-is_in.true))

pub invariant_of-self-lent : goal.invariant_of-self-lent
invariant_of-self-lent c = λ w.
    tied_written c.self.inside.cells c.self.inside.index.entries c.self.invariant c.args.key.number c.likely-likely.result
    (c.self.invariant.indexed c.args.key.number c.likely-likely.result (c.is_in.ensures.0 c.if-is_in.true)) w c.index_mut.result.now c.index_mut.ensures.value

pub returns-then-is_in : goal.returns-then-is_in
returns-then-is_in c =
    let found = c.self.invariant.indexed c.args.key.number c.likely-likely.result (c.is_in.ensures.0 c.if-is_in.true) in
    rw (← c.self.view_is) (
      lent_as _ _ _ (λ w. held_written c.self.inside.cells c.self.inside.index.entries c.self.invariant c.args.key.number c.likely-likely.result
          found w c.index_mut.result.now c.index_mut.ensures.value),
      record {
        writes_back = tt;
        value = held-at c.self.inside.cells c.self.inside.index.entries c.self.invariant c.args.key.number c.likely-likely.result
            found c.index_mut.result.now c.index_mut.ensures.value;
        ordered = ordered_held c.self.inside.cells c.self.inside.index.entries c.self.invariant c.args.key.number;
      },
    )
