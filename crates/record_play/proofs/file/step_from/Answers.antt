use Rattle.std.proofs.Common.{arith}
use Rattle.record_play.proofs.file.step_from.Goals as goal

pub returns-else-place-least-clause-none : goal.returns-else-place-least-clause-none
returns-else-place-least-clause-none c = λ n step has.
    let found = c.in-Some.ensures.complete n step has in
    omega (arith, found.0, c.if-place-least.false)

pub returns-in-None-clause-none : goal.returns-in-None-clause-none
returns-in-None-clause-none c = λ n step has. absurd (c.in-None.ensures.complete n step has)
