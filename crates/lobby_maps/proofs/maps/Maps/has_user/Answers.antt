use Rattle.std.proofs.Common.{◌∙◌, refl, sym, ap}
use Rattle.lobby_model.specs.State.{State}
use Rattle.lobby_battles.proofs.Users.{is_user_at}
use Rattle.lobby_maps.proofs.Plain.{plainly}
use Rattle.lobby_maps.proofs.maps.Maps.has_user.Goals as goal

pub returns : goal.returns
returns c =
    c.contains_key.ensures
    ∙ sym (is_user_at c.self.inside.online.users.entries c.args.self.now.plain.users c.args.name.now c.args.name.now
    (ap (λ (s : State). s.users) (plainly c.self.view_is)) refl)
