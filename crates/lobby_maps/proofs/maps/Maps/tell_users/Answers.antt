use Rattle.std.proofs.Common.{subst, [], ◌∷◌}
use Rattle.std.proofs.lemmas.Result.{on_ok_weaker}
use Rattle.lobby_model.specs.State.{State}
use Rattle.lobby_model.specs.Outcome.{tell, users}
use Rattle.lobby_post.specs.Posted.{Told}
use Rattle.lobby_post.proofs.Telling.{told_all}
use Rattle.lobby_maps.proofs.Walks.{reaches_users}
use Rattle.lobby_maps.proofs.Plain.{plainly}
use Rattle.lobby_maps.proofs.maps.Maps.tell_users.Goals as goal

pub returns : goal.returns
returns c =
    on_ok_weaker _ (λ sent.
    subst (λ (s : State). Told s c.args.post.now c.address_names.new.post (tell (users c.args.names.now) (c.args.line ∷ [])
    ∷ [])) (plainly c.self.view_is)
    (told_all _ c.args.post.now c.write.new.self c.address_names.new.post c.args.line (users c.args.names.now)
    (record {
      clients = _;
      reached = reaches_users _ _ _ c.args.names.now c.self.invariant.1.agree c.requires;
      is = sent;
    }) c.in_ok-write.ensures)) c.address_names.ensures
