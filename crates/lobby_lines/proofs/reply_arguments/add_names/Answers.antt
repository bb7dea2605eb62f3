use Rattle.std.proofs.lemmas.Option.{slice_get_read}
use Rattle.std.proofs.Common.{refl, subst}
use Rattle.lobby_lines.specs.Fields.{Adds}
use Rattle.lobby_lines.specs.Replies.{one_text}
use Rattle.lobby_lines.proofs.Adding.{adds_next}
use Rattle.lobby_lines.proofs.reply_arguments.add_names.Goals as goal

pub loop-name-preserved : goal.loop-name-preserved
loop-name-preserved c =
    adds_next one_text c.args.names.now c.loop-name.name-index c.name-item.result c.args.fields.now c.loop-name.fields c.put_text.new.self
    (slice_get_read c.args.names.now _ c.loop-name.name-index c.name-item.result refl c.loop-name-test.true c.name-item.is) c.loop-name.invariant
    (subst (λ w. Adds (one_text w) c.loop-name.fields c.put_text.new.self) c.as_slice.ensures.value c.in_ok-put_text.ensures)
