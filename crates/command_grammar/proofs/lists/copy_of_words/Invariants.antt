use Rattle.std.proofs.Common.{◌≡◌, ◌++◌, length}
use Rattle.command_grammar.specs.Readers.{words_in}
use Rattle.command_grammar.proofs.Checks.{IsLeft}
use Rattle.command_grammar.proofs.lists.copy_of_words.Given as goal

-- the words so far and those to come are the words of the rest
abbrev pub invariant-loop-word : goal.invariant-loop-word
invariant-loop-word l = record {
  so_far : l.words.items ++ words_in l.left ≡ words_in l.rest;
  walked : IsLeft l.left;
}

abbrev pub decreases-loop-word : goal.decreases-loop-word
decreases-loop-word l = length l.left
