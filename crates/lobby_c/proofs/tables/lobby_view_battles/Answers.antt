use Rattle.std.proofs.lemmas.Grind.{common_steps}
use Rattle.std.proofs.Common.{arith}
use Rattle.lobby_lines.specs.Rows.{battle_row, battle_shown}
use Rattle.lobby_c.specs.Slot.{content}
use Rattle.lobby_c.proofs.Showing.{shown_as}
use Rattle.lobby_c.proofs.tables.lobby_view_battles.Goals as goal

pub returns-clause-shown : goal.returns-clause-shown
returns-clause-shown c =
    let taken = c.take.ensures in
    let opened = c.open-opened.ensures in
    let at = c.deref.ensures in
    let lent = c.battles.ensures in
    shown_as battle_row battle_shown c.battles.result (content c.args.view.now.held).known.battles _ _ _
    (grind (arith, common_steps)) (c.answer-status.ensures _ _ c.battle_table.ensures)
