use Rattle.std.proofs.Common.{subst, [], ◌∷◌}
use Rattle.std.proofs.lemmas.Result.{on_ok_weaker}
use Rattle.lobby_model.specs.State.{State}
use Rattle.lobby_model.specs.Outcome.{tell, everyone, others}
use Rattle.lobby_post.specs.Posted.{Told}
use Rattle.lobby_post.proofs.Telling.{told_others}
use Rattle.lobby_maps.proofs.Walks.{reaches_everyone}
use Rattle.lobby_maps.proofs.Plain.{plainly}
use Rattle.lobby_maps.proofs.maps.Maps.tell_others.Goals as goal

pub returns : goal.returns
returns c =
    on_ok_weaker _ (λ sent.
    subst (λ (s : State). Told s c.args.post.now c.address_all.new.post (tell others (c.args.line ∷ []) ∷ [])) (plainly c.self.view_is)
    (told_others _ c.args.post.now c.write_for_others.new.self c.address_all.new.post c.args.line everyone
    (record {
      clients = _;
      reached = reaches_everyone _ _ _ c.address_all.ensures.rising c.self.invariant.1.listed;
      is =
          sent;
    }) c.in_ok-write_for_others.ensures)) c.address_all.ensures.sent
