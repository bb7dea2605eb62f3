use Rattle.command_grammar.proofs.Bounds.{request_keeps, request_id_keeps}
use Rattle.command_grammar.proofs.laws.keeps_kinds.Goals as goal

pub returns-clause-id : goal.returns-clause-id
returns-clause-id c = request_id_keeps

pub returns-clause-arguments : goal.returns-clause-arguments
returns-clause-arguments c = request_keeps
