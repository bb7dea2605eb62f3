use Rattle.request_printer.proofs.Gaps.{no_shorter}
use Rattle.request_printer.proofs.laws.no_line_is_shorter.Goals as goal

pub returns : goal.returns
returns c = no_shorter
