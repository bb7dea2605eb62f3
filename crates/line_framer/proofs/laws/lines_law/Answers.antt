use Rattle.line_framer.proofs.Limit.{plain_come_out}
use Rattle.line_framer.proofs.laws.lines_law.Goals as goal

pub returns : goal.returns
returns c = plain_come_out
