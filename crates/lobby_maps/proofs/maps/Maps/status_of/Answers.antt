use Rattle.std.proofs.Common.{◌∙◌, ap, sym}
use Rattle.std.specs.Prelude.{None, Some}
use Rattle.lobby_model.specs.State.{State}
use Rattle.lobby_model.specs.Sessions.{status_in}
use Rattle.lobby_battles.proofs.Users.{user_at}
use Rattle.lobby_maps.proofs.Plain.{plainly}
use Rattle.lobby_maps.proofs.maps.Maps.status_of.Goals as goal

pub returns-in-Some : goal.returns-in-Some
returns-in-Some c =
    sym (ap status_in (user_at c.self.inside.online.users.entries c.args.self.now.plain.users c.args.name.now (Some c.in-Some.online_user.now)
    (ap (λ (s : State). s.users) (plainly c.self.view_is)) c.in-Some.ensures.value))

pub returns-in-None : goal.returns-in-None
returns-in-None c =
    c.of_account.ensures.word
    ∙ sym (ap status_in (user_at c.self.inside.online.users.entries c.args.self.now.plain.users c.args.name.now None
    (ap (λ (s : State). s.users) (plainly c.self.view_is)) c.in-None.ensures.value))
