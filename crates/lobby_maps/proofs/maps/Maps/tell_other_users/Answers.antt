use Rattle.std.proofs.Common.{subst, [], ◌∷◌}
use Rattle.std.proofs.lemmas.Result.{on_ok_weaker}
use Rattle.lobby_model.specs.State.{State}
use Rattle.lobby_model.specs.Outcome.{tell, users}
use Rattle.lobby_post.specs.Posted.{Told, but_issuer}
use Rattle.lobby_post.proofs.Telling.{told_others}
use Rattle.lobby_maps.proofs.Walks.{reaches_users}
use Rattle.lobby_maps.proofs.Plain.{plainly}
use Rattle.lobby_maps.proofs.maps.Maps.tell_other_users.Goals as goal

pub returns : goal.returns
returns c =
    on_ok_weaker _ (λ sent.
    subst (λ (s : State). Told s c.args.post.now c.address_names.new.post (tell (but_issuer (users c.args.names.now)) (c.args.line ∷ [])
    ∷ [])) (plainly c.self.view_is)
    (told_others _ c.args.post.now c.write_for_others.new.self c.address_names.new.post c.args.line (users c.args.names.now)
    (record {
      clients = _;
      reached = reaches_users _ _ _ c.args.names.now c.self.invariant.1.agree c.requires;
      is = sent;
    }) c.in_ok-write_for_others.ensures)) c.address_names.ensures
