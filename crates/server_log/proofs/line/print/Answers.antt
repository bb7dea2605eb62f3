use Rattle.server_log.proofs.Safe.{one_line}
use Rattle.server_log.specs.Fields.{fields_of, word_of}
use Rattle.server_log.proofs.line.print.Goals as goal

pub returns-clause-one : goal.returns-clause-one
returns-clause-one c = one_line (word_of c.args.happening.now) (fields_of c.args.happening.now)
