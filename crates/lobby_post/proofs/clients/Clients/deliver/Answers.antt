use Rattle.std.proofs.Common.{◌∙◌, ap, sym, subst}
use Rattle.lobby_post.specs.Mail.{AreDue, AreReady, deliver, plain}
use Rattle.lobby_post.specs.Dirty.{IsNewly, listings_of}
use Rattle.lobby_post.specs.Crowd.{Crowd, Known, lines_of, waits}
use Rattle.lobby_post.proofs.Homes.{known_of_lines, known_of_lists}
use Rattle.lobby_post.proofs.Newcomers.{newly_waits}
use Rattle.lobby_post.proofs.clients.Clients.deliver.Goals as goal

pub deliver-requires-clause-due : goal.deliver-requires-clause-due
deliver-requires-clause-due c = subst (λ (m : Crowd). AreDue c.args.post.now.sent m.slots) (sym c.self.view_is) c.requires.due

pub deliver-requires-clause-ready : goal.deliver-requires-clause-ready
deliver-requires-clause-ready c = subst (λ (m : Crowd). AreReady m.slots) (sym c.self.view_is) c.requires.ready

pub returns-clause-clients : goal.returns-clause-clients
returns-clause-clients c =
    c.deliver.ensures.clients c.self.inside.limit c.self.invariant.0
    ∙ ap (λ (m : Crowd). deliver m.limit c.args.post.now.sent (plain m.slots)) c.self.view_is

pub invariant_of-self : goal.invariant_of-self
invariant_of-self c = (c.deliver.ensures.limits c.self.inside.limit c.self.invariant.0, c.self.invariant.1)

pub returns-clause-known : goal.returns-clause-known
returns-clause-known c = λ n known.
    known_of_lines (listings_of c.deliver.new.slots) c.deliver.new.dirty n
    (c.deliver.ensures.known n (known_of_lists (listings_of c.self.inside.slots) c.self.inside.dirty n
    (subst (λ (m : Crowd). Known m n) (sym c.self.view_is) known)))

pub returns-clause-newly : goal.returns-clause-newly
returns-clause-newly c = λ n home known small.
    let inside = known_of_lists (listings_of c.self.inside.slots) c.self.inside.dirty n (subst (λ (m : Crowd). Known m n) (sym c.self.view_is) known) in
    let after : Crowd = record { limit = c.self.inside.limit; slots = c.deliver.new.slots; lines = lines_of c.deliver.new.dirty } in
    subst (λ (m : Crowd). IsNewly c.args.post.now.sent m.slots home (waits m home) (waits after home)) c.self.view_is
    (newly_waits _ c.self.inside.slots home c.deliver.new.slots (c.deliver.ensures.homes home) c.self.inside.dirty c.deliver.new.dirty small
    (c.deliver.ensures.newly n home inside small))
