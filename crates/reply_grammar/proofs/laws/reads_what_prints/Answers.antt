use Rattle.reply_grammar.proofs.Whole.{reading_is_inverse}
use Rattle.reply_grammar.proofs.laws.reads_what_prints.Goals as goal

pub returns : goal.returns
returns c line pair = reading_is_inverse line pair
