use Rattle.record_lines.proofs.Entered.{closed, drained, if_said_refused, opened, spoken}
use Rattle.record_lines.proofs.entry.put_lines.Goals as goal

pub returns-in-Open-clause-records : goal.returns-in-Open-clause-records
returns-in-Open-clause-records c =
    opened c.args.masks.now c.args.made.now c.args.out.now.items c.put_open.new.out.items c.put_open.result c.in-Open.ip c.in-Open.home
    c.in-Open.is c.put_open.ensures.ok

pub returns-in-Say-clause-records : goal.returns-in-Say-clause-records
returns-in-Say-clause-records c =
    spoken c.args.masks.now c.args.made.now c.args.out.now.items c.put_said.new.out.items c.put_said.result c.in-Say.client c.in-Say.request
    c.in-Say.is c.put_said.ensures.ok

pub returns-in-Say-clause-refused : goal.returns-in-Say-clause-refused
returns-in-Say-clause-refused c = λ held.
    rw c.in-Say.is (if_said_refused c.put_said.result c.args.masks.now.accounts c.args.masks.now.private held
    c.in-Say.client c.in-Say.request c.put_said.ensures.refused)

pub returns-in-Drain-clause-records : goal.returns-in-Drain-clause-records
returns-in-Drain-clause-records c =
    drained c.args.masks.now c.args.made.now c.args.out.now.items c.put_read.new.out.items c.put_read.result c.in-Drain.client c.in-Drain.count
    c.in-Drain.is c.put_read.ensures.ok

pub returns-in-Shut-clause-records : goal.returns-in-Shut-clause-records
returns-in-Shut-clause-records c =
    closed c.args.masks.now c.args.made.now c.args.out.now.items c.put_shut.new.out.items c.put_shut.result c.in-Shut.client
    c.in-Shut.is c.put_shut.ensures.ok

pub returns-in-Open-clause-wanted : goal.returns-in-Open-clause-wanted
returns-in-Open-clause-wanted c = λ e. rw c.in-Open.is (c.put_open.ensures.wanted e)

pub returns-in-Say-clause-wanted : goal.returns-in-Say-clause-wanted
returns-in-Say-clause-wanted c = λ e. rw c.in-Say.is (c.put_said.ensures.wanted e)

pub returns-in-Drain-clause-wanted : goal.returns-in-Drain-clause-wanted
returns-in-Drain-clause-wanted c = λ e. rw c.in-Drain.is (c.put_read.ensures.wanted e)

pub returns-in-Shut-clause-wanted : goal.returns-in-Shut-clause-wanted
returns-in-Shut-clause-wanted c = λ e. rw c.in-Shut.is (c.put_shut.ensures.wanted e)
