use Rattle.std.proofs.lemmas.Grind.{common_steps}
use Rattle.std.proofs.Common.{arith}
use Rattle.lobby_lines.specs.Rows.{user_row, user_shown}
use Rattle.lobby_lines.proofs.Laying.{one_more}
use Rattle.lobby_lines.proofs.views.user_table.Goals as goal

pub loop-name-preserved : goal.loop-name-preserved
loop-name-preserved c =
    let made = c.in_ok-row.ensures.made in
    let items = c.in_ok-push.ensures.items in
    one_more user_row user_shown _ _ _ _ _ _ (c.in-Some.name.now, c.in-Some.user.now) (grind (arith, common_steps)) c.loop-name.invariant
    (grind (arith, common_steps)) c.in_ok-row.ensures.text
