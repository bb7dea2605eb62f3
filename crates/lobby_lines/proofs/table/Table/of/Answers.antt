use Rattle.std.proofs.lemmas.Grind.{common_steps}
use Rattle.std.proofs.Common.{arith}
use Rattle.lobby_lines.proofs.Laying.{one_more}
use Rattle.lobby_lines.proofs.table.Table.of.Goals as goal

pub loop-item-preserved : goal.loop-item-preserved
loop-item-preserved g c =
    let is = c.item-item.is in
    let made = c.in_ok-row.ensures.made in
    let items = c.in_ok-push.ensures.items in
    one_more g.T.Listed.row_at g.T.Listed.shown _ _ _ _ _ _ c.item-item.result (grind (arith, common_steps)) c.loop-item.invariant
    (grind (arith, common_steps)) c.in_ok-row.ensures.text
