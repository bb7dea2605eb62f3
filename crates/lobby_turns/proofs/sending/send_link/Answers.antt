use Rattle.lobby_turns.proofs.Sendings.{one_less, one_write, next_wrote, next_sent, next_would_block, next_fault}
use Rattle.lobby_turns.proofs.sending.send_link.Goals as goal

pub returns-then-is_written-clause-sends : goal.returns-then-is_written-clause-sends
returns-then-is_written-clause-sends g c = λ before others drained none.
    let e = c.in-Took.ensures in
    next_sent before _ _ _ _ drained none (e.went others c.args.pass) (one_write _ _ e.writes e.reads e.read e.failures e.last_got e.session e.unfed) e.last_sent c.if-dry.true (c.is_written.ensures.0 c.if-is_written.true)

pub returns-else-dry-clause-sends : goal.returns-else-dry-clause-sends
returns-else-dry-clause-sends g c = λ before others drained none.
    let e = c.in-Took.ensures in
    next_wrote before _ _ _ _ drained none (e.went others c.args.pass) (one_write _ _ e.writes e.reads e.read e.failures e.last_got e.session e.unfed) e.last_sent

pub returns-in-Later-clause-sends : goal.returns-in-Later-clause-sends
returns-in-Later-clause-sends g c = λ before others drained none.
    let e = c.in-Later.ensures in
    next_would_block before _ _ _ drained none (e.went others c.args.pass) (one_write _ _ e.writes e.reads e.read e.failures e.last_got e.session e.unfed) e.last_sent

pub returns-in-Fault-clause-sends : goal.returns-in-Fault-clause-sends
returns-in-Fault-clause-sends g c = λ before others drained none.
    let e = c.in-Fault.ensures in
    next_fault before _ _ _ drained none (e.went others c.args.pass) (one_write _ _ e.writes e.reads e.read e.failures e.last_got e.session e.unfed) e.last_sent

pub returns-else-dry-clause-goes : goal.returns-else-dry-clause-goes
returns-else-dry-clause-goes g c = λ may.
    let e = c.in-Took.ensures in
    one_less _ _ may e.reads e.writes e.failures
