use Rattle.std.proofs.lemmas.Grind.{common_steps}
use Rattle.std.proofs.Common.{arith}
use Rattle.lobby_lines.specs.Rows.{battle_row, battle_shown}
use Rattle.lobby_lines.proofs.Laying.{one_more}
use Rattle.lobby_lines.proofs.views.battle_table.Goals as goal

pub loop-number-preserved : goal.loop-number-preserved
loop-number-preserved c =
    let made = c.in_ok-row.ensures.made in
    let items = c.in_ok-push.ensures.items in
    one_more battle_row battle_shown _ _ _ _ _ _ (c.in-Some.number.now, c.in-Some.battle.now) (grind (arith, common_steps)) c.loop-number.invariant
    (grind (arith, common_steps)) c.in_ok-row.ensures.text
