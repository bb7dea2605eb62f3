use Rattle.std.proofs.Common.{subst, [], ◌∷◌}
use Rattle.std.proofs.lemmas.Result.{on_ok_weaker}
use Rattle.lobby_model.specs.State.{State}
use Rattle.lobby_model.specs.Outcome.{tell, everyone_but}
use Rattle.lobby_post.specs.Posted.{Told}
use Rattle.lobby_post.proofs.Telling.{told_all}
use Rattle.lobby_maps.proofs.AllBut.{reaches_all_but}
use Rattle.lobby_maps.proofs.Plain.{plainly}
use Rattle.lobby_maps.proofs.maps.Maps.tell_all_but.Goals as goal

pub returns : goal.returns
returns c =
    on_ok_weaker _ (λ sent.
    subst (λ (s : State). Told s c.args.post.now c.address_all_but.new.post
    (tell (everyone_but (c.args.first.now ∷ c.args.second.now ∷ [])) (c.args.line ∷ []) ∷ [])) (plainly c.self.view_is)
    (told_all _ c.args.post.now c.write.new.self c.address_all_but.new.post c.args.line
    (everyone_but (c.args.first.now ∷ c.args.second.now ∷ []))
    (record {
      clients = _;
      reached = reaches_all_but _ _ _ _ c.args.first.now c.args.second.now c.address_all_but.ensures.rising c.self.invariant.1.listed
          c.self.invariant.1.agree;
      is = sent;
    }) c.in_ok-write.ensures)) c.address_all_but.ensures.sent
