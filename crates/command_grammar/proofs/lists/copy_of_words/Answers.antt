use Rattle.std.proofs.Common.{◌++◌, ◌∷◌, [], List, ℕ, sym, ap, ◌∙◌, refl}
use Rattle.std.specs.Prelude.{Ok}
use Rattle.command_grammar.specs.Readers.{words_in}
use Rattle.command_grammar.proofs.Checks.{left_behind, left_word, word_pushed, words_begun, words_done}
use Rattle.command_grammar.proofs.lists.copy_of_words.Goals as goal

pub loop-word-init : goal.loop-word-init
loop-word-init c = rw (c.new-words.ensures.items, c.new-left.ensures) (record { so_far = refl; walked = words_begun c.args.rest.now c.requires.text c.requires.words })

pub copy_of-requires : goal.copy_of-requires
copy_of-requires c = left_word _ _ _ c.in-Some.ensures.word c.loop-word.invariant.walked

pub loop-word-preserved : goal.loop-word-preserved
loop-word-preserved c = record {
  so_far =
      ap (λ (items : List (List ℕ)). items ++ words_in c.next_word.new.self) (c.in_ok-push.ensures.items ∙ ap (λ (w : List ℕ). c.loop-word.words.items ++ w ∷ []) c.in_ok-copy_of.ensures)
      ∙ word_pushed c.loop-word.words.items c.loop-word.left c.in-Some.word.now c.next_word.new.self c.in-Some.ensures.word ∙ c.loop-word.invariant.so_far;
  walked = left_behind _ _ _ c.in-Some.ensures.word c.loop-word.invariant.walked;
}

pub returns : goal.returns
returns c =
    words_done c.args.rest.now c.loop-word.left c.loop-word.words.items c.loop-word.invariant.so_far (c.in_default.ensures.none.0 refl) c.requires.words
    ∙ ap (λ (words : List (List ℕ)). Ok words) (sym c.new.ensures)
