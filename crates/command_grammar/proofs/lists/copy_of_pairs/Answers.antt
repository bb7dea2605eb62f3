use Rattle.std.proofs.Common.{◌++◌, ◌∷◌, [], List, ℕ, sym, ap, ◌∙◌}
use Rattle.std.specs.Prelude.{Ok}
use Rattle.line_words.specs.declared.lists.Pair.{Pair}
use Rattle.line_words.specs.Sentences.{between_tabs}
use Rattle.command_grammar.specs.Readers.{behind_pairs, pairs_in}
use Rattle.command_grammar.proofs.Checks.{behind_none, pair_pushed, pairs_more, pairs_checked, pairs_done, sentences_more}
use Rattle.command_grammar.proofs.Slices.{sentence_kinds}
use Rattle.command_grammar.proofs.lists.copy_of_pairs.Goals as goal

pub loop-sentence-init : goal.loop-sentence-init
loop-sentence-init c =
    rw (c.new-pairs.ensures.items, c.split_sentences-sentences.ensures)
    (record { so_far = behind_none (pairs_in (between_tabs c.args.text.now)); kinds = sentence_kinds c.args.text.now c.requires.text; good = pairs_checked c.args.text.now c.requires.pairs })

pub loop-sentence-preserved-in_ok-push : goal.loop-sentence-preserved-in_ok-push
loop-sentence-preserved-in_ok-push c = record {
  so_far =
      ap (λ (items : List Pair). behind_pairs items (pairs_in c.next.new.self)) (c.in_ok-push.ensures.items ∙ ap (λ (p : Pair). c.loop-sentence.pairs.items ++ p ∷ []) c.in_ok-copy_of_pair.ensures)
      ∙ pair_pushed c.loop-sentence.pairs.items c.loop-sentence.sentences c.next.new.self c.in-Some.sentence.now _ c.in-Some.ensures.steps c.in-Some-pair_in.ensures.some ∙ c.loop-sentence.invariant.so_far;
  kinds = sentences_more _ _ _ c.in-Some.ensures.steps c.loop-sentence.invariant.kinds;
  good = pairs_more _ _ _ _ c.in-Some.ensures.steps c.in-Some-pair_in.ensures.some c.loop-sentence.invariant.good;
}

pub returns : goal.returns
returns c =
    pairs_done c.args.text.now c.loop-sentence.pairs.items (ap (λ (s : List (List ℕ)). behind_pairs c.loop-sentence.pairs.items (pairs_in s)) (sym c.in_default.ensures.steps.0) ∙ c.loop-sentence.invariant.so_far) c.requires.pairs
    ∙ ap (λ (pairs : List Pair). Ok pairs) (sym c.new.ensures)
