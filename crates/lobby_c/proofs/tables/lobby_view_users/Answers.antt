use Rattle.std.proofs.lemmas.Grind.{common_steps}
use Rattle.std.proofs.Common.{arith}
use Rattle.lobby_lines.specs.Rows.{user_row, user_shown}
use Rattle.lobby_c.specs.Slot.{content}
use Rattle.lobby_c.proofs.Showing.{shown_as}
use Rattle.lobby_c.proofs.tables.lobby_view_users.Goals as goal

pub returns-clause-shown : goal.returns-clause-shown
returns-clause-shown c =
    let taken = c.take.ensures in
    let opened = c.open-opened.ensures in
    let at = c.deref.ensures in
    let lent = c.users.ensures in
    shown_as user_row user_shown c.users.result (content c.args.view.now.held).known.users _ _ _
    (grind (arith, common_steps)) (c.answer-status.ensures _ _ c.user_table.ensures)
