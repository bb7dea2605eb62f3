use Rattle.std.proofs.Common.{refl, inr}
use Rattle.record_play.specs.Leaving.{IsCause}
use Rattle.record_play.proofs.Left.{last_none, last_is_not}
use Rattle.record_play.proofs.order.before_cause.Goals as goal

pub returns-in_default : goal.returns-in_default
returns-in_default c = inr (refl, last_none IsCause c.args.lines.now c.in_default.ensures.none)

pub returns-else-is_cause : goal.returns-else-is_cause
returns-else-is_cause c =
    inr (
      refl,
      last_is_not IsCause c.args.lines.now c.in-Some.text.now c.last_line.result.0.now c.last_line.result.1.now c.in-Some.ensures.some
          c.last_line.ensures.whole c.last_line.ensures.lines c.last_line.ensures.rest (λ is. let told = c.if-is_cause.ensures.1 is in absurd cc),
    )
