use Rattle.request_printer.proofs.Gaps.{no_fault}
use Rattle.request_printer.proofs.laws.what_reads_is_printed.Goals as goal

pub returns : goal.returns
returns c = no_fault
