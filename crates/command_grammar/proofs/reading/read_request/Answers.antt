use Rattle.std.proofs.Common.{subst, ◌∙◌}
use Rattle.std.proofs.lemmas.Result.{err_from_is_err_and}
use Rattle.command_grammar.specs.declared.command.Request.{Request}
use Rattle.command_grammar.specs.Reads.{Reads}
use Rattle.command_grammar.proofs.Lines.{request_read, request_only}
use Rattle.command_grammar.proofs.Whole.{read_as, refused_as}
use Rattle.command_grammar.proofs.reading.read_request.Goals as goal

pub returns-in_err-command-clause-refused : goal.returns-in_err-command-clause-refused
returns-in_err-command-clause-refused c =
    let p = err_from_is_err_and c.from_residual.result c.from_residual.ensures.1 in
    rw p.1 (refused_as c.args.line.now _ _ _ c.without_spaces.ensures c.read_id-id.ensures c.in_err-command.ensures.err)

pub returns-clause-reads : goal.returns-clause-reads
returns-clause-reads c =
    subst (λ (r : Request). Reads c.args.line.now r) (read_as c.args.line.now _ _ _ _ c.without_spaces.ensures c.read_id-id.ensures c.in_ok-command.ensures.ok) (request_read c.args.line.now)

pub returns-clause-only : goal.returns-clause-only
returns-clause-only c other h =
    request_only c.args.line.now other h ∙ read_as c.args.line.now _ _ _ _ c.without_spaces.ensures c.read_id-id.ensures c.in_ok-command.ensures.ok
