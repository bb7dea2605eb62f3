use Rattle.std.proofs.Common.{◌∙◌}
use Rattle.lobby_post.proofs.Cells.{held-is_some}
use Rattle.lobby_post.proofs.slots.Slots.contains.Goals as goal

pub returns : goal.returns
returns c = rw (← c.self.view_is) (c.contains_key.ensures ∙ held-is_some c.self.inside.cells c.self.inside.index.entries c.self.invariant c.args.client)
