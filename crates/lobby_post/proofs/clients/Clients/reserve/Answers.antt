use Rattle.std.proofs.Common.{[], sym, subst}
use Rattle.lobby_post.specs.Mail.{AreDue}
use Rattle.lobby_post.specs.Crowd.{Crowd}
use Rattle.lobby_post.proofs.clients.Clients.reserve.Goals as goal

pub reserve-requires : goal.reserve-requires
reserve-requires c = record { due = subst (λ (m : Crowd). AreDue [] m.slots) (sym c.self.view_is) c.requires.due }

pub invariant_of-self : goal.invariant_of-self
invariant_of-self c = (c.reserve.ensures.limits c.self.inside.limit c.self.invariant.0, c.self.invariant.1)
