use Rattle.std.proofs.Common.{[], arith}
use Rattle.lobby_turns.proofs.Sendings.{writes_on, writing_none, writing_more, stops, writes_all, writes_stopped, writes_most, one_write}
use Rattle.lobby_turns.proofs.sending.write_out.Goals as goal

pub write_rest-requires-clause-wire : goal.write_rest-requires-clause-wire
write_rest-requires-clause-wire g c = writes_on _ _ c.args.most c.loop.counter c.requires.wire c.loop-test.true (c.loop.invariant [])

pub loop-init : goal.loop-init
loop-init g c = λ others. writing_none _

pub returns-then-is_written : goal.returns-then-is_written
returns-then-is_written g c = λ others. writes_all _ _ _ _ c.loop-test.true (c.is_written.ensures.0 c.if-is_written.true) (c.loop.invariant others)

pub returns-in_default : goal.returns-in_default
returns-in_default g c = λ others.
    let e = c.write_rest.ensures in
    writes_stopped _ _ _ _ _ c.loop-test.true (stops c.write_rest.result _ c.in_default.not-Took e.last_sent) (c.loop.invariant others) (e.went others _) (one_write _ _ e.writes e.reads e.read e.failures e.last_got e.session e.unfed)

pub loop-preserved : goal.loop-preserved
loop-preserved g c = λ others.
    let e = c.write_rest.ensures in
    writing_more _ _ _ _ (c.loop.invariant others) (e.went others _) (one_write _ _ e.writes e.reads e.read e.failures e.last_got e.session e.unfed)

pub returns : goal.returns
returns g c = λ others. writes_most _ _ _ _ (omega (arith, c.loop-test.false)) (c.loop.invariant others)
