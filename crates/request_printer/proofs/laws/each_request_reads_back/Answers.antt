use Rattle.request_printer.proofs.Lines.{request_reads_back}
use Rattle.request_printer.proofs.laws.each_request_reads_back.Goals as goal

pub returns : goal.returns
returns c = request_reads_back
