use Rattle.std.proofs.Common.{◌≡◌, ℕ, ◌+◌, ◌-◌, ◌<◌, ◌≤◌, List, ◌++◌, length, ◌⊎◌}
use Rattle.line_framer.specs.Buffered.{HasNoEnd}
use Rattle.line_framer.proofs.Cut.{Behind}
use Rattle.line_framer.proofs.search.cut_piece.Given as goal

abbrev pub invariant-loop-whole : goal.invariant-loop-whole
invariant-loop-whole l = record {
  within : l.whole ≤ l.before + length l.piece;
  apart : (l.whole ≡ 0) ⊎ (l.before < l.whole);
  behind : (rest : List ℕ) → length rest ≡ l.before → HasNoEnd rest → Behind (rest ++ l.piece) l.limit l.whole;
}

abbrev pub decreases-loop-whole : goal.decreases-loop-whole
decreases-loop-whole l = l.total - l.whole
