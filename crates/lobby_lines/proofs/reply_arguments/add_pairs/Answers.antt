use Rattle.std.proofs.lemmas.Option.{slice_get_read}
use Rattle.std.proofs.Common.{refl, subst, [], ◌∷◌}
use Rattle.lobby_lines.specs.Fields.{Adds, Text}
use Rattle.lobby_lines.specs.Replies.{one_text, two_texts}
use Rattle.lobby_lines.proofs.Adding.{adds_both, adds_next}
use Rattle.lobby_lines.proofs.reply_arguments.add_pairs.Goals as goal

pub loop-pair-preserved : goal.loop-pair-preserved
loop-pair-preserved c =
    let a = c.loop-pair.fields in
    let b = c.put_text.new.self in
    let d = c.put_text-in-loop-pair.new.self in
    let key = subst (λ w. Adds (one_text w) a b) c.as_slice.ensures.value c.in_ok-put_text.ensures in
    let value = subst (λ w. Adds (one_text w) b d) c.as_slice-in-loop-pair.ensures.value c.in_ok-put_text-2.ensures in
    adds_next two_texts c.args.pairs.now c.loop-pair.pair-index c.pair-item.result c.args.fields.now a d
    (slice_get_read c.args.pairs.now _ c.loop-pair.pair-index c.pair-item.result refl c.loop-pair-test.true c.pair-item.is) c.loop-pair.invariant
    (adds_both (Text c.pair-item.result.key ∷ []) (Text c.pair-item.result.value ∷ []) a b d key value)
