use Rattle.std.proofs.Common.{◌≤◌, length, arith, rules}
use Rattle.toml.specs.Errors.{IsMemory}
use Rattle.toml_fields.proofs.Documents.{document-read, document-refused}
use Rattle.toml_fields.proofs.document.read_document.Goals as goal

pub returns-in-Ok-clause-ok : goal.returns-in-Ok-clause-ok
returns-in-Ok-clause-ok c = document-read _ _ c.in-Ok.ensures.ok

pub returns-in-Some-clause-err : goal.returns-in-Some-clause-err
returns-in-Some-clause-err c =
    let not_memory : ¬ (IsMemory c.in-Err.e) = search rules in
    let within : c.in-Some.span.start ≤ length c.args.bytes.now =
    omega (arith, c.in-Err.ensures.span.0, c.in-Err.ensures.span.1, c.in-Some.ensures.range.0) in
    (document-refused _ (c.in-Err.ensures.refused not_memory), (c.in-Some.span.start, within, c.line_behind.ensures))
