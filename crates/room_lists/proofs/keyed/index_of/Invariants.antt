use Rattle.std.proofs.Common.{◌≡◌, ℕ, List, take}
use Rattle.line_words.specs.Table.{is_among}
use Rattle.room_lists.proofs.Seen.{words_of}
use Rattle.room_lists.proofs.keyed.index_of.Given as goal

abbrev pub invariant-loop-key : goal.invariant-loop-key
invariant-loop-key l = (key : List ℕ) → is_among key (words_of l.index.keys) ≡ is_among key (take l.key-index l.keys)
