use Rattle.std.proofs.Common.{arith}
use Rattle.std.specs.Prelude.{is_ok}
use Rattle.lobby_machine.specs.Shown.{unread_of}
use Rattle.lobby_hall.specs.Copied.{completed_log}
use Rattle.lobby_hall.proofs.Changed.{past-changed, of-past, of-at, written_if}
use Rattle.lobby_hall.proofs.record.Record.catch_up.Goals as goal

pub returns-then-index-len-clause-log : goal.returns-then-index-len-clause-log
returns-then-index-len-clause-log c =
    rw (← c.self.view_is) (past-changed (λ log. completed_log log (unread_of c.args.lobby.now.plain c.args.client)) c.self.inside.logs.items c.args.client c.in-Some.index c.in-Some.ensures.some (omega arith))

pub returns-then-index-len-clause-within : goal.returns-then-index-len-clause-within
returns-then-index-len-clause-within c =
    rw (← c.self.view_is, of-past (λ log. log) c.self.inside.logs.items c.args.client c.in-Some.index c.in-Some.ensures.some (omega arith)) tt

pub returns-clause-log : goal.returns-clause-log
returns-clause-log c =
    rw (← c.self.view_is) (written_if (λ log. completed_log log (unread_of c.args.lobby.now.plain c.args.client)) c.self.inside.logs.items c.args.client c.in-Some.index c.in-Some.ensures.some
    c.index_mut-log.result.now (omega arith) c.index_mut-log.ensures.value (is_ok c.catch_up.result) c.catch_up.new.self c.catch_up.ensures.log)

pub returns-clause-within : goal.returns-clause-within
returns-clause-within c =
    rw (← c.self.view_is, of-at (λ log. log) c.self.inside.logs.items c.args.client c.in-Some.index c.in-Some.ensures.some c.index_mut-log.result.now (omega arith) c.index_mut-log.ensures.value) c.catch_up.ensures.within
