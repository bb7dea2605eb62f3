use Rattle.std.proofs.Common.{◌∙◌}
use Rattle.worker_loop.proofs.Kept.{asked}
use Rattle.worker_loop.proofs.turns.take_names.Goals as goal

pub returns-then-named-gt0-clause-attended : goal.returns-then-named-gt0-clause-attended
returns-then-named-gt0-clause-attended g c rest a = asked _ _ _ rest c.expect_names.ensures a

pub returns-then-expects_nobody-clause-attended : goal.returns-then-expects_nobody-clause-attended
returns-then-expects_nobody-clause-attended g c rest a =
    asked _ _ _ rest (c.expects_nobody.ensures.yes c.if-expects_nobody.true).1 a

pub loop-preserved : goal.loop-preserved
loop-preserved g c = (
  c.take_some_names-pass.ensures.desk ∙ c.loop.invariant.0,
  c.take_some_names-pass.ensures.number ∙ c.loop.invariant.1,
  λ rest a. c.take_some_names-pass.ensures.attended rest (c.loop.invariant.2 rest a),
)

pub returns-then-not-is_pending-clause-attended : goal.returns-then-not-is_pending-clause-attended
returns-then-not-is_pending-clause-attended g c rest a = c.take_some_names-pass.ensures.attended rest (c.loop.invariant.2 rest a)

pub returns-else-not-is_pending-clause-attended : goal.returns-else-not-is_pending-clause-attended
returns-else-not-is_pending-clause-attended g c rest a = c.take_some_names-pass.ensures.attended rest (c.loop.invariant.2 rest a)
