use Rattle.std.proofs.Common.{List, ℕ, subst, ◌∙◌}
use Rattle.line_words.specs.Words.{SkipsSpaces}
use Rattle.command_grammar.proofs.Cuts.{skipped_to}
use Rattle.command_grammar.proofs.reading.without_spaces.Goals as goal

pub returns : goal.returns
returns c =
    c.rest.ensures ∙ skipped_to _ _ (subst (λ (l : List ℕ). SkipsSpaces l c.skip_spaces.new.self) c.new-words.ensures c.skip_spaces.ensures)
