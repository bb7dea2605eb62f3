use Rattle.std.proofs.Common.{◌∙◌, arith}
use Rattle.record_lines.specs.Steps.{Read}
use Rattle.record_lines.proofs.StepLines.{put_whole}
use Rattle.record_lines.proofs.lines.put_read.Goals as goal

pub returns-clause-ok : goal.returns-clause-ok
returns-clause-ok c =
    let label = c.in_ok-small.ensures.ok in
    let count = c.in_ok-small-2.ensures.ok in
    rw (label.0, count.0) at (put_whole c.args.place (Read c.in_ok-small.field-0 c.in_ok-small-2.field-0) _ _ _
    (c.deref.ensures.0 ∙ c.read_line-line.ensures) c.in_ok-extend_from_slice.ensures.items (omega arith) (label.1, count.1))
