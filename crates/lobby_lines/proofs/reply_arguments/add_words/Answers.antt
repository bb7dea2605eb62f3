use Rattle.std.proofs.lemmas.Option.{slice_get_read}
use Rattle.std.proofs.Common.{refl, subst}
use Rattle.lobby_lines.specs.Fields.{Adds}
use Rattle.lobby_lines.specs.Replies.{one_text}
use Rattle.lobby_lines.proofs.Adding.{adds_next}
use Rattle.lobby_lines.proofs.reply_arguments.add_words.Goals as goal

pub loop-word-preserved : goal.loop-word-preserved
loop-word-preserved c =
    adds_next one_text c.args.words.now c.loop-word.word-index c.word-item.result c.args.fields.now c.loop-word.fields c.put_text.new.self
    (slice_get_read c.args.words.now _ c.loop-word.word-index c.word-item.result refl c.loop-word-test.true c.word-item.is) c.loop-word.invariant
    (subst (λ w. Adds (one_text w) c.loop-word.fields c.put_text.new.self) c.as_slice.ensures.value c.in_ok-put_text.ensures)
