use Rattle.std.proofs.Common.{subst, [], ◌∷◌}
use Rattle.std.proofs.lemmas.Result.{on_ok_weaker}
use Rattle.lobby_model.specs.State.{State}
use Rattle.lobby_model.specs.Outcome.{tell, user}
use Rattle.lobby_post.specs.Posted.{Told}
use Rattle.lobby_post.proofs.Telling.{told_all}
use Rattle.lobby_maps.proofs.Walks.{reaches_user}
use Rattle.lobby_maps.proofs.Plain.{plainly}
use Rattle.lobby_maps.proofs.maps.Maps.tell_self.Goals as goal

pub returns : goal.returns
returns c =
    on_ok_weaker _ (λ sent.
    subst (λ (s : State). Told s c.args.post.now c.address_near.new.post (tell (user c.args.me.now) (c.args.line ∷ [])
    ∷ [])) (plainly c.self.view_is)
    (told_all _ c.args.post.now c.write.new.self c.address_near.new.post c.args.line (user c.args.me.now)
    (record {
      clients = _;
      reached = reaches_user _ _ _ c.args.me.now c.self.invariant.1.agree;
      is = sent;
    }) c.in_ok-write.ensures)) c.address_near.ensures
