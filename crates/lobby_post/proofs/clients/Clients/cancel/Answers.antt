use Rattle.std.proofs.Common.{sym, subst}
use Rattle.lobby_post.specs.Mail.{AreDue}
use Rattle.lobby_post.specs.Crowd.{Crowd}
use Rattle.lobby_post.proofs.clients.Clients.cancel.Goals as goal

pub cancel-requires : goal.cancel-requires
cancel-requires c = record { due = subst (λ (m : Crowd). AreDue c.args.post.now.sent m.slots) (sym c.self.view_is) c.requires.due }

pub invariant_of-self : goal.invariant_of-self
invariant_of-self c = (c.cancel.ensures.limits c.self.inside.limit c.self.invariant.0, c.self.invariant.1)
