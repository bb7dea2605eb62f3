use Rattle.std.proofs.Common.{drop}
use Rattle.reply_kinds.specs.Kinds.{words_text}
use Rattle.reply_printer.proofs.Kept.{Putting}
use Rattle.reply_printer.proofs.pieces.put_words.Given as goal

abbrev pub invariant-loop-word : goal.invariant-loop-word
invariant-loop-word l = Putting l.fn.out l.out (words_text (drop l.word-index l.words)) (words_text l.words)
