use Rattle.std.proofs.Common.{◌≡◌, take}
use Rattle.reply_kinds.proofs.owned.copied_pairs.Given as goal

abbrev pub invariant-loop-pair : goal.invariant-loop-pair
invariant-loop-pair l = l.copied.items ≡ take l.pair-index l.pairs
