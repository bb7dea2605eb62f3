use Rattle.std.proofs.Common.{drop}
use Rattle.reply_kinds.specs.Kinds.{pairs_text}
use Rattle.reply_printer.proofs.Kept.{Putting}
use Rattle.reply_printer.proofs.pieces.put_pairs.Given as goal

abbrev pub invariant-loop-pair : goal.invariant-loop-pair
invariant-loop-pair l = Putting l.fn.out l.out (pairs_text l.separator (drop l.pair-index l.pairs)) (pairs_text 32 l.pairs)
