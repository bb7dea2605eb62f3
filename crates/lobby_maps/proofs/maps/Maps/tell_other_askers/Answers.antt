use Rattle.std.proofs.Common.{◌∙◌, ap, subst, map, [], ◌∷◌}
use Rattle.std.proofs.lemmas.Result.{on_ok_weaker}
use Rattle.room_lists.specs.Room.{asker_names}
use Rattle.lobby_model.specs.State.{State}
use Rattle.lobby_model.specs.Outcome.{tell, users}
use Rattle.lobby_post.specs.Posted.{Told, addressed, but_issuer}
use Rattle.lobby_post.proofs.Telling.{told_others}
use Rattle.lobby_maps.specs.Fit.{clients_of}
use Rattle.lobby_maps.proofs.Walks.{reaches_users}
use Rattle.lobby_maps.proofs.Plain.{plainly}
use Rattle.lobby_maps.proofs.maps.Maps.tell_other_askers.Goals as goal

pub returns : goal.returns
returns c =
    on_ok_weaker _ (λ sent.
    subst (λ (s : State). Told s c.args.post.now c.address_askers.new.post (tell (but_issuer (users (asker_names c.args.room.now))) (c.args.line ∷ [])
    ∷ [])) (plainly c.self.view_is)
    (told_others _ c.args.post.now c.write_for_others.new.self c.address_askers.new.post c.args.line (users (asker_names c.args.room.now))
    (record {
      clients = _;
      reached = reaches_users _ _ _ (asker_names c.args.room.now) c.self.invariant.1.agree c.askers.ensures.distinct;
      is = sent
          ∙ ap (λ asked. addressed c.write_for_others.new.self (clients_of c.self.inside.online.users.entries (map (λ a. a.name) asked))) c.askers.ensures.askers;
    }) c.in_ok-write_for_others.ensures)) c.address_askers.ensures
