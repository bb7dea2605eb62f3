use Rattle.std.proofs.Common.{◌∙◌}
use Rattle.lobby_post.proofs.Crowds.{plain-is_some}
use Rattle.lobby_post.proofs.clients.Clients.contains.Goals as goal

pub returns : goal.returns
returns c = rw (← c.self.view_is) (c.contains.ensures ∙ plain-is_some c.args.client c.self.inside.slots)
