use Rattle.std.proofs.Common.{◌≡◌, ◌∙◌, Some, ap, subst}
use Rattle.std.proofs.lemmas.Result.{on_ok_weaker}
use Rattle.lobby_model.specs.State.{State, name_of}
use Rattle.lobby_model.specs.Outcome.{user}
use Rattle.lobby_post.specs.Posted.{Sends}
use Rattle.lobby_maps.specs.Fit.{IsOwn}
use Rattle.lobby_maps.proofs.Walks.{reaches_own, reaches_user}
use Rattle.lobby_maps.proofs.Plain.{plainly}
use Rattle.lobby_maps.proofs.maps.Maps.address_user.Goals as goal

pub returns-clause-sent : goal.returns-clause-sent
returns-clause-sent c =
    on_ok_weaker _ (λ sent.
    subst (λ (s : State). Sends s c.args.post.now c.address_user.new.post (user c.args.name.now)) (plainly c.self.view_is)
    (record {
      clients = _;
      reached = reaches_user _ _ _ c.args.name.now c.self.invariant.1.agree;
      is = sent;
    })) c.address_user.ensures

pub returns-clause-own : goal.returns-clause-own
returns-clause-own c = on_ok_weaker {Q = name_of c.args.self.now.plain c.args.post.now.issuer ≡ Some c.args.name.now
    → IsOwn c.args.self.now.plain c.args.post.now c.address_user.new.post c.args.name.now} _ (λ sent. λ mine.
    subst (λ (s : State). IsOwn s c.args.post.now c.address_user.new.post c.args.name.now) (plainly c.self.view_is)
    (reaches_own _ c.self.inside.online.users.entries c.args.post.now c.address_user.new.post c.args.name.now c.self.invariant.1.agree
    (ap (λ (s : State). name_of s c.args.post.now.issuer) (plainly c.self.view_is) ∙ mine) sent)) c.address_user.ensures
