use Rattle.std.proofs.Common.{arith, refl}
use Rattle.record_lines.specs.Steps.{Take}
use Rattle.record_lines.proofs.StepLines.{put_bare}
use Rattle.record_lines.proofs.lines.put_take.Goals as goal

pub returns-clause-ok : goal.returns-clause-ok
returns-clause-ok c =
    put_bare c.args.place (Take c.args.label) _ _ _ refl c.in_ok-put_front.ensures.ok c.in_ok-put_end.ensures.ok
    (omega arith) c.in_ok-put_front.ensures.small
