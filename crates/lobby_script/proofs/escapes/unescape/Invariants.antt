use Rattle.std.proofs.Common.{◌≡◌, ℕ, List, ◌++◌, length}
use Rattle.record_lines.specs.Escapes.{StandsForBytes}
use Rattle.lobby_script.proofs.escapes.unescape.Given as goal

-- the bytes so far, and those that the rest stands for, are those of the text
abbrev pub invariant-loop-byte : goal.invariant-loop-byte
invariant-loop-byte l = record {
  sound : (more : List ℕ) → StandsForBytes l.rest more → StandsForBytes l.text (l.bytes.items ++ more);
  complete : (all : List ℕ) → StandsForBytes l.text all → (more : List ℕ) × StandsForBytes l.rest more × (all ≡ l.bytes.items ++ more);
}

abbrev pub decreases-loop-byte : goal.decreases-loop-byte
decreases-loop-byte l = length l.rest
