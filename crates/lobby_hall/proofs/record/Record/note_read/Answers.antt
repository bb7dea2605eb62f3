use Rattle.std.proofs.Common.{◌∙◌, ap, arith, slice_set}
use Rattle.lobby_hall.specs.Copied.{read_on}
use Rattle.lobby_hall.proofs.Changed.{past-changed, written, set-same}
use Rattle.lobby_hall.proofs.record.Record.note_read.Goals as goal

pub returns-then-index-len-clause-log : goal.returns-then-index-len-clause-log
returns-then-index-len-clause-log c =
    rw (← c.self.view_is) (written (read_on c.args.count) c.self.inside.logs.items c.args.client c.in-Some.index c.in-Some.ensures.some c.index_mut-log.result.now (omega arith) c.index_mut-log.ensures.value c.note_read.new.self c.note_read.ensures.log)

pub returns-then-index-len-clause-none : goal.returns-then-index-len-clause-none
returns-then-index-len-clause-none c = λ none.
    rw (← c.self.view_is) (ap (slice_set c.self.inside.logs.items c.in-Some.index) (c.note_read.ensures.none none) ∙ set-same (read_on c.args.count) c.self.inside.logs.items c.in-Some.index c.index_mut-log.result.now c.index_mut-log.ensures.value)

pub returns-else-index-len-clause-log : goal.returns-else-index-len-clause-log
returns-else-index-len-clause-log c = rw (← c.self.view_is) (past-changed (read_on c.args.count) c.self.inside.logs.items c.args.client c.in-Some.index c.in-Some.ensures.some (omega arith))
