use Rattle.std.proofs.Common.{sym}
use Rattle.lobby_post.proofs.Cells.{insert_is_set}
use Rattle.lobby_post.proofs.slots.Slots.insert.Goals as goal

pub returns-in-Some-clause-entries : goal.returns-in-Some-clause-entries
returns-in-Some-clause-entries c =
    insert_is_set c.args.client c.in-Some.held.now c.args.slot c.args.self.now c.get_mut.ensures.ordered (sym c.in-Some.ensures.value)
