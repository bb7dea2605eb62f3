use Rattle.request_printer.proofs.RowOf.{text_of_row}
use Rattle.request_printer.proofs.printing.put_row.Goals as goal

pub returns-clause-ok : goal.returns-clause-ok
returns-clause-ok g c = rw (text_of_row _ _ _ c.requires.row) c.put.ensures.ok

pub returns-clause-wanted : goal.returns-clause-wanted
returns-clause-wanted g c = rw (text_of_row _ _ _ c.requires.row) c.put.ensures.wanted
