use Rattle.std.proofs.Common.{refl, subst, sym}
use Rattle.lobby_model.specs.declared.schedule.Step.TheVariants as step
use Rattle.record_play.specs.Steps.{IsOrdered}
use Rattle.record_play.proofs.playing.carry_out.Goals as goal

pub returns-in_ok-step-in-Send-clause-ok : goal.returns-in_ok-step-in-Send-clause-ok
returns-in_ok-step-in-Send-clause-ok c =
    let s = step.Arrive c.args.client c.in-Send.bytes in
    (s, subst (λ o. IsOrdered c.args.client o s) (sym c.in-Send.is) refl, c.in_ok-step-in-Send.ensures.schedule)

pub returns-in_ok-step-in-Take-clause-ok : goal.returns-in_ok-step-in-Take-clause-ok
returns-in_ok-step-in-Take-clause-ok c =
    let s = step.Take c.args.client in
    (s, subst (λ o. IsOrdered c.args.client o s) (sym c.in-Take.is) refl, c.in_ok-step-in-Take.ensures.schedule)

pub returns-in_ok-step-in-Shut-clause-ok : goal.returns-in_ok-step-in-Shut-clause-ok
returns-in_ok-step-in-Shut-clause-ok c =
    let s = step.Shut c.args.client in
    (s, subst (λ o. IsOrdered c.args.client o s) (sym c.in-Shut.is) refl, c.in_ok-step-in-Shut.ensures.schedule)
