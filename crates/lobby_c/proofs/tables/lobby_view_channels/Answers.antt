use Rattle.std.proofs.lemmas.Grind.{common_steps}
use Rattle.std.proofs.Common.{arith}
use Rattle.std.specs.Map.{keys_of}
use Rattle.lobby_lines.specs.Layout.{place, itself}
use Rattle.lobby_c.specs.Slot.{content}
use Rattle.lobby_c.proofs.Showing.{shown_as}
use Rattle.lobby_c.proofs.tables.lobby_view_channels.Goals as goal

pub returns-clause-shown : goal.returns-clause-shown
returns-clause-shown c =
    let taken = c.take.ensures in
    let opened = c.open-opened.ensures in
    let at = c.deref.ensures in
    let lent = c.channels.ensures in
    shown_as place itself (keys_of c.channels.result) (keys_of (content c.args.view.now.held).known.channels) _ _ _
    (grind (arith, common_steps)) (c.answer-status.ensures _ _ c.channel_table.ensures)
