use Rattle.std.proofs.Common.{◌∙◌, ap, sym, length}
use Rattle.lobby_post.specs.Unread.{unread_in}
use Rattle.lobby_post.proofs.Crowds.{plain-at, plain-none}
use Rattle.lobby_post.proofs.clients.Clients.unread.Goals as goal

pub returns-in-Some-clause-count : goal.returns-in-Some-clause-count
returns-in-Some-clause-count c = rw (← c.self.view_is)
    (c.unread.ensures.count ∙ ap (λ o. length (unread_in o))
    (sym (plain-at c.args.client c.in-Some.slot.now c.self.inside.slots c.in-Some.ensures.value)))

pub returns-in-None-clause-count : goal.returns-in-None-clause-count
returns-in-None-clause-count c = rw (← c.self.view_is)
    (ap (λ o. length (unread_in o)) (sym (plain-none c.args.client c.self.inside.slots c.in-None.ensures.value)))
