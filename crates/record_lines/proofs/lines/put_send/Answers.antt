use Rattle.std.proofs.Common.{arith}
use Rattle.record_lines.specs.Steps.{Send}
use Rattle.record_lines.proofs.StepLines.{put_so}
use Rattle.record_lines.proofs.lines.put_send.Goals as goal

pub returns-clause-ok : goal.returns-clause-ok
returns-clause-ok c =
    put_so c.args.place (Send c.args.label c.args.bytes.now) _ _ _ _ c.in_ok-put_front.ensures.ok
    c.in_ok-put_bytes.ensures.ok c.in_ok-put_end.ensures.ok (omega arith) c.in_ok-put_front.ensures.small
