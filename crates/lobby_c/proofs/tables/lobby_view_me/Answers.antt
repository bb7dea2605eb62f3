use Rattle.std.proofs.lemmas.Grind.{common_steps}
use Rattle.std.proofs.Common.{arith, ◌∷◌, []}
use Rattle.lobby_lines.specs.Layout.{place, itself}
use Rattle.lobby_c.specs.Slot.{content}
use Rattle.lobby_c.proofs.Showing.{shown_as}
use Rattle.lobby_c.proofs.tables.lobby_view_me.Goals as goal

pub returns-clause-shown : goal.returns-clause-shown
returns-clause-shown c =
    let taken = c.take.ensures in
    let opened = c.open-opened.ensures in
    let at = c.deref.ensures in
    let lent = c.own_name.ensures in
    shown_as place itself (c.own_name.result.now ∷ []) ((content c.args.view.now.held).known.me ∷ []) _ _ _
    (grind (arith, common_steps)) (c.answer-status.ensures _ _ c.text_table.ensures)
