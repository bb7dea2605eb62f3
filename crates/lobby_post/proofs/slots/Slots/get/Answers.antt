use Rattle.std.proofs.Common.{sym}
use Rattle.lobby_post.proofs.Cells.{contained, held-none, held-at}
use Rattle.lobby_post.proofs.slots.Slots.get.Goals as goal

pub returns-in_err-slot : goal.returns-in_err-slot
returns-in_err-slot c =
    rw (c.from_residual.ensures, ← c.self.view_is) (record {
      value = sym (held-none c.self.inside.cells c.self.inside.index.entries c.self.invariant c.args.client (sym c.in_err-slot.ensures));
    })

pub index-requires : goal.index-requires
index-requires c =
    contained c.self.inside.cells c.self.inside.index.entries c.self.invariant c.args.client c.in_ok-slot.slot (sym c.in_ok-slot.ensures)

pub returns : goal.returns
returns c =
    rw (← c.self.view_is) (record {
      value = held-at c.self.inside.cells c.self.inside.index.entries c.self.invariant c.args.client c.in_ok-slot.slot
          (sym c.in_ok-slot.ensures) c.index.result.now c.index.ensures;
    })
