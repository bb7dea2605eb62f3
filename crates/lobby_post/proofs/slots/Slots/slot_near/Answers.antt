use Rattle.std.proofs.Common.{sym}
use Rattle.lobby_post.proofs.slots.Slots.slot_near.Goals as goal

pub returns-then-is_in : goal.returns-then-is_in
returns-then-is_in c = sym (c.requires.indexed c.args.client c.args.likely (c.is_in.ensures.0 c.if-is_in.true))
