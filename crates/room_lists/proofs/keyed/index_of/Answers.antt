use Rattle.std.proofs.Common.{◌∙◌, ◌<◌, ◌++◌, ◌∷◌, [], ap, sym, take, length, rules}
use Rattle.std.specs.Prelude.{ℕ, List, ◌||◌}
use Rattle.std.proofs.lemmas.List.{take_more, take_all}
use Rattle.line_words.specs.Table.{same_name, is_among}
use Rattle.room_lists.proofs.Picked.{among_more}
use Rattle.room_lists.proofs.Seen.{words_of, among_inserted}
use Rattle.room_lists.proofs.keyed.index_of.Goals as goal

pub loop-key-preserved : goal.loop-key-preserved
loop-key-preserved c = λ other.
    let inside : c.loop-key.key-index < length c.args.keys.now = search rules in
    ap (λ keys. is_among other (words_of keys)) c.in_ok-insert.ensures.keys
    ∙ among_inserted c.loop-key.index.keys _ other
    ∙ ap (λ b. b || same_name other c.key-item.result) (c.loop-key.invariant other)
    ∙ sym (among_more other (take c.loop-key.key-index c.args.keys.now) c.key-item.result)
    ∙ ap (λ (k : List ℕ). is_among other (take c.loop-key.key-index c.args.keys.now ++ k ∷ [])) c.key-item.is
    ∙ sym (ap (is_among other) (take_more c.args.keys.now c.loop-key.key-index c.key-item.result inside))

pub returns : goal.returns
returns c = λ other. c.loop-key.invariant other ∙ ap (is_among other) (take_all c.loop-key.key-index c.args.keys.now (search rules))
