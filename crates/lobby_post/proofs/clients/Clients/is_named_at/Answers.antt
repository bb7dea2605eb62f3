use Rattle.std.proofs.Common.{◌∙◌, ap, sym}
use Rattle.std.specs.Prelude.{Some}
use Rattle.std.specs.Cmp.Lexicographic.{same_text}
use Rattle.lobby_model.specs.State.{name_of_client}
use Rattle.lobby_post.proofs.Crowds.{plain-at}
use Rattle.lobby_post.proofs.clients.Clients.is_named_at.Goals as goal

pub returns-in-Some-name : goal.returns-in-Some-name
returns-in-Some-name c = λ is.
    rw (← c.self.view_is)
    (ap name_of_client (plain-at c.args.key.number c.in-Some.slot.now c.self.inside.slots (sym c.in-Some.ensures))
    ∙ sym c.in-Some-name.ensures ∙ ap Some (same_text c.in-Some-name.held.now c.args.name.now (sym is ∙ c.eq.ensures)))
