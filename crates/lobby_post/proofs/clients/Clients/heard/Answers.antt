use Rattle.std.proofs.Common.{◌≡◌, ◌∙◌, ap, sym, subst}
use Rattle.std.specs.Prelude.{IfSome, option_copied}
use Rattle.lobby_model.specs.State.{is_live_client, name_of_client}
use Rattle.lobby_post.proofs.Crowds.{plain-at, plain-none}
use Rattle.lobby_post.proofs.clients.Clients.heard.Goals as goal

pub returns-in-Some-clause-hears : goal.returns-in-Some-clause-hears
returns-in-Some-clause-hears c = rw (← c.self.view_is)
    (c.heard.ensures.hears ∙ ap is_live_client (sym (plain-at c.args.client c.in-Some.slot.now c.self.inside.slots c.in-Some.ensures.value)))

pub returns-in-Some-clause-name : goal.returns-in-Some-clause-name
returns-in-Some-clause-name c =
    rw (← c.self.view_is) (subst (λ o. IfSome c.heard.result (λ name. option_copied name ≡ o))
    (ap name_of_client (sym (plain-at c.args.client c.in-Some.slot.now c.self.inside.slots c.in-Some.ensures.value))) c.heard.ensures.name)

pub returns-in-None-clause-hears : goal.returns-in-None-clause-hears
returns-in-None-clause-hears c = rw (← c.self.view_is)
    (ap is_live_client (sym (plain-none c.args.client c.self.inside.slots c.in-None.ensures.value)))
