use Rattle.std.proofs.Common.{◌∙◌, ap, sym}
use Rattle.std.specs.Prelude.{Some}
use Rattle.std.specs.Option.{option_map}
use Rattle.lobby_model.specs.State.{Client}
use Rattle.lobby_post.proofs.Crowds.{plain-at, plain-none}
use Rattle.lobby_post.proofs.clients.Clients.ip_of.Goals as goal

pub returns-in-Some : goal.returns-in-Some
returns-in-Some c = rw (← c.self.view_is) (ap (λ ip. Some ip) c.ip.ensures
    ∙ ap (λ o. option_map (λ (d : Client). d.ip) o) (sym (plain-at c.args.client c.in-Some.slot.now c.self.inside.slots c.in-Some.ensures.value)))

pub returns-in-None : goal.returns-in-None
returns-in-None c = rw (← c.self.view_is)
    (ap (λ o. option_map (λ (d : Client). d.ip) o) (sym (plain-none c.args.client c.self.inside.slots c.in-None.ensures.value)))
