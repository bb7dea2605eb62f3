use Rattle.command_grammar.proofs.Whole.{no_id}
use Rattle.command_grammar.proofs.reading.id_of.Goals as goal

pub returns-in-None : goal.returns-in-None
returns-in-None c = no_id c.args.digits.now c.in-None.ensures.none
