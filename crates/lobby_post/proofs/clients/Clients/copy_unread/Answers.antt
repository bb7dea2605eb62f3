use Rattle.std.proofs.Common.{◌∙◌, ◌-◌, ◌++◌, ap, sym, length, min, take, drop, arith}
use Rattle.lobby_post.specs.Unread.{unread_in}
use Rattle.lobby_post.proofs.Crowds.{plain-at, plain-none}
use Rattle.lobby_post.proofs.clients.Clients.copy_unread.Goals as goal

pub returns-in-Some-clause-count : goal.returns-in-Some-clause-count
returns-in-Some-clause-count c = rw (← c.self.view_is)
    (c.copy_unread.ensures.count ∙ ap (λ o. min (length (unread_in o) - c.args.from) (length c.args.into.now))
    (sym (plain-at c.args.client c.in-Some.slot.now c.self.inside.slots c.in-Some.ensures.value)))

pub returns-in-Some-clause-given : goal.returns-in-Some-clause-given
returns-in-Some-clause-given c = rw (← c.self.view_is)
    (c.copy_unread.ensures.given ∙ ap (λ o. take c.copy_unread.result (drop c.args.from (unread_in o)) ++ drop c.copy_unread.result c.args.into.now)
    (sym (plain-at c.args.client c.in-Some.slot.now c.self.inside.slots c.in-Some.ensures.value)))

pub returns-in-None-clause-count : goal.returns-in-None-clause-count
returns-in-None-clause-count c = rw (← c.self.view_is, plain-none c.args.client c.self.inside.slots c.in-None.ensures.value) (omega arith)
