use Rattle.std.proofs.Common.{List, ℕ, subst, ◌∙◌, sym, ap}
use Rattle.std.specs.Prelude.{IsTrue, Ok}
use Rattle.line_words.specs.Bytes.{is_spaces}
use Rattle.line_words.specs.Words.{FirstWord}
use Rattle.command_grammar.proofs.Slices.{word_missing, word_read, word_kind}
use Rattle.command_grammar.proofs.arguments.word_at.Goals as goal

pub returns-in_default-clause-value : goal.returns-in_default-clause-value
returns-in_default-clause-value c =
    word_missing c.args.rest.now (subst (λ (s : List ℕ). IsTrue (is_spaces s)) c.new-words.ensures (c.in_default.ensures.none.0 cc))

pub returns-then-has_tab-clause-value : goal.returns-then-has_tab-clause-value
returns-then-has_tab-clause-value c =
    word_read c.args.rest.now _ _ _ (subst (λ (s : List ℕ). FirstWord s c.in-Some.word.now c.next_word.new.self) c.new-words.ensures c.in-Some.ensures.word) (sym c.if-has_tab.ensures)

pub returns-clause-value : goal.returns-clause-value
returns-clause-value c =
    word_read c.args.rest.now _ _ _ (subst (λ (s : List ℕ). FirstWord s c.in-Some.word.now c.next_word.new.self) c.new-words.ensures c.in-Some.ensures.word) (sym c.if-has_tab.ensures)
    ∙ ap (λ (r : List ℕ). Ok (c.in-Some.word.now, r)) (sym c.rest.ensures)

pub returns-clause-word : goal.returns-clause-word
returns-clause-word c =
    word_kind c.args.rest.now _ _ c.requires (subst (λ (s : List ℕ). FirstWord s c.in-Some.word.now c.next_word.new.self) c.new-words.ensures c.in-Some.ensures.word) (sym c.if-has_tab.ensures)
