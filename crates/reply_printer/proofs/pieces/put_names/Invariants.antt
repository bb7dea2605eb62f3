use Rattle.std.proofs.Common.{drop}
use Rattle.reply_kinds.specs.Kinds.{words_text}
use Rattle.reply_printer.proofs.Kept.{Putting}
use Rattle.reply_printer.proofs.pieces.put_names.Given as goal

abbrev pub invariant-loop-name : goal.invariant-loop-name
invariant-loop-name l = Putting l.fn.out l.out (words_text (drop l.name-index l.names)) (words_text l.names)
