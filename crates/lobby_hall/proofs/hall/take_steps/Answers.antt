use Rattle.std.proofs.Common.{◌∙◌, ◌++◌, ◌∷◌, [], ap, sym, subst, arith, take}
use Rattle.std.proofs.lemmas.Grind.{take_at_read}
use Rattle.lobby_hall.specs.Schedules.{StandsFor}
use Rattle.lobby_hall.proofs.hall.take_steps.Goals as goal

pub loop-step-preserved : goal.loop-step-preserved
loop-step-preserved c = λ settings accounts base.
    subst (StandsFor c.step.new.self settings accounts)
    (ap (λ s. take c.loop-step.step-index c.args.steps.now ++ s ∷ []) c.step-item.is ∙ sym (take_at_read c.args.steps.now c.loop-step.step-index c.step-item.result (omega (arith, c.loop-step-test.true, c.loop-step.auto.step-index-end))).1)
    (c.in_ok-step.ensures.schedule settings accounts _ (c.loop-step.invariant settings accounts base))
