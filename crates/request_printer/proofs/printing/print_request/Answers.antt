use Rattle.request_printer.proofs.printing.print_request.Goals as goal

pub returns-clause-wanted : goal.returns-clause-wanted
returns-clause-wanted c = c.print_command.ensures.wanted
