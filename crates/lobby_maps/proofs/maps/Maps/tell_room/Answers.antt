use Rattle.std.proofs.Common.{◌∙◌, ap, subst, map, [], ◌∷◌}
use Rattle.std.proofs.lemmas.Result.{on_ok_weaker}
use Rattle.room_lists.specs.Room.{member_names}
use Rattle.lobby_model.specs.State.{State}
use Rattle.lobby_model.specs.Outcome.{tell, users}
use Rattle.lobby_post.specs.Posted.{Told, addressed}
use Rattle.lobby_post.proofs.Telling.{told_all}
use Rattle.lobby_maps.specs.Fit.{clients_of}
use Rattle.lobby_maps.proofs.Walks.{reaches_users}
use Rattle.lobby_maps.proofs.Plain.{plainly}
use Rattle.lobby_maps.proofs.maps.Maps.tell_room.Goals as goal

pub returns : goal.returns
returns c =
    on_ok_weaker _ (λ sent.
    subst (λ (s : State). Told s c.args.post.now c.address_members.new.post (tell (users (member_names c.args.room.now)) (c.args.line ∷ [])
    ∷ [])) (plainly c.self.view_is)
    (told_all _ c.args.post.now c.write.new.self c.address_members.new.post c.args.line (users (member_names c.args.room.now))
    (record {
      clients = _;
      reached = reaches_users _ _ _ (member_names c.args.room.now) c.self.invariant.1.agree c.members.ensures.distinct;
      is = sent
          ∙ ap (λ ms. addressed c.write.new.self (clients_of c.self.inside.online.users.entries (map (λ m. m.name) ms))) c.members.ensures.members;
    }) c.in_ok-write.ensures)) c.address_members.ensures
