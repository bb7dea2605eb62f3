use Rattle.std.proofs.Common.{◌∙◌, ap, sym}
use Rattle.std.specs.Prelude.{Some}
use Rattle.lobby_post.specs.Cells.{owner}
use Rattle.lobby_post.proofs.Cells.{held-at}
use Rattle.lobby_post.proofs.slots.Slots.at.Goals as goal

pub returns-in-Some : goal.returns-in-Some
returns-in-Some c =
    rw (← c.self.view_is)
    (sym (held-at c.self.inside.cells c.self.inside.index.entries c.self.invariant c.args.key.number c.args.key.slot
    (c.self.invariant.indexed c.args.key.number c.args.key.slot (sym (ap owner c.in-Some.ensures) ∙ ap Some c.if-cell-key.true))
    c.in-Some.cell.now (sym c.in-Some.ensures)))
