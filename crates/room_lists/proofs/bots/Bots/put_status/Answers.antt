use Rattle.std.proofs.Common.{to_z, of_z, w64, ◌∙◌, ap, sym, rules}
use Rattle.std.specs.Prelude.{if◌then◌else◌}
use Rattle.std.specs.List.{slice_set}
use Rattle.std.proofs.lemmas.List.Edits.{map_over_more}
use Rattle.line_words.specs.Table.{same_name}
use Rattle.room_lists.specs.Room as room
use Rattle.room_lists.proofs.bots.Bots.put_status.Goals as goal

pub loop-bot-preserved : goal.loop-bot-preserved
loop-bot-preserved g c =
    let f = λ (b : room.Bot). if same_name c.args.name.now b.name then room.bot_with (g.S.StatusWord.number c.args.status) (to_z w64 (of_z w64 c.args.colour)) b else b in
    ap (slice_set c.loop-bot.bot-items c.loop-bot.bot-index) (c.put_status.ensures ∙ ap f (sym c.bot-item.is))
    ∙ map_over_more f c.deref_mut-bot-items.result.now c.loop-bot.bot-items c.loop-bot.bot-index c.bot-item.result (search rules) c.loop-bot.invariant c.bot-item.is
