use Rattle.record_play.specs.Leaving.{IsSent}
use Rattle.record_play.proofs.Left.{last_none, last_is_not}
use Rattle.record_play.proofs.order.before_sent.Goals as goal

pub returns-in_err-text-clause-none : goal.returns-in_err-text-clause-none
returns-in_err-text-clause-none c = rw c.from_residual.ensures (last_none IsSent c.args.lines.now c.in_err-text.ensures.none)

pub returns-else-is_sent-clause-none : goal.returns-else-is_sent-clause-none
returns-else-is_sent-clause-none c =
    last_is_not IsSent c.args.lines.now c.in_ok-text.text.now c.last_line.result.0.now c.last_line.result.1.now c.in_ok-text.ensures.some
    c.last_line.ensures.whole c.last_line.ensures.lines c.last_line.ensures.rest (λ is. let told = c.if-is_sent.ensures.1 is in absurd cc)
