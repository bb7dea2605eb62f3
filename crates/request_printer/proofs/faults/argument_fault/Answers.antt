use Rattle.request_printer.proofs.RowOf.{fault_of_row}
use Rattle.request_printer.proofs.faults.argument_fault.Goals as goal

pub returns : goal.returns
returns g c = rw (fault_of_row _ _ _ c.requires.row) c.fault_in.ensures
