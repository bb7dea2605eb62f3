use Rattle.std.proofs.Common.{◌∙◌, subst}
use Rattle.std.specs.Prelude.{IfSome}
use Rattle.lobby_model.specs.State.{State}
use Rattle.lobby_maps.specs.Fit.{IsSole}
use Rattle.lobby_maps.proofs.AllBut.{sole_of}
use Rattle.lobby_maps.proofs.Plain.{plainly}
use Rattle.lobby_maps.proofs.maps.Maps.client_of.Goals as goal

pub returns : goal.returns
returns c =
    subst (λ (s : State). IfSome c.client_of.result (λ client. IsSole s client c.args.name.now)) (plainly c.self.view_is)
    (sole_of _ c.client_of.result c.args.name.now (λ d. c.client_of.ensures d ∙ c.self.invariant.1.agree c.args.name.now d))
