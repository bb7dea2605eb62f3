use Rattle.std.proofs.Common.{◌≡◌, length}
use Rattle.std.specs.Prelude.{IsTrue, is_ok}
use Rattle.std.specs.List.{list_all}
use Rattle.line_words.specs.Bytes.{is_sentence}
use Rattle.line_words.specs.Sentences.{between_tabs}
use Rattle.command_grammar.specs.Readers.{pairs_in, behind_pairs}
use Rattle.command_grammar.proofs.lists.copy_of_pairs.Given as goal

-- the pairs so far and those of the sentences to come are the pairs of the text
abbrev pub invariant-loop-sentence : goal.invariant-loop-sentence
invariant-loop-sentence l = record {
  so_far : behind_pairs l.pairs.items (pairs_in l.sentences) ≡ pairs_in (between_tabs l.text);
  kinds : IsTrue (list_all is_sentence l.sentences);
  good : IsTrue (is_ok (pairs_in l.sentences));
}

abbrev pub decreases-loop-sentence : goal.decreases-loop-sentence
decreases-loop-sentence l = length l.sentences
