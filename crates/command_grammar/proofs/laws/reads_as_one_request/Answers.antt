use Rattle.command_grammar.proofs.Lines.{request_read, request_only}
use Rattle.command_grammar.proofs.laws.reads_as_one_request.Goals as goal

pub returns-clause-one : goal.returns-clause-one
returns-clause-one c = request_read

pub returns-clause-only : goal.returns-clause-only
returns-clause-only c = request_only
