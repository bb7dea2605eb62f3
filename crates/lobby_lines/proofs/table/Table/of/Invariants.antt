use Rattle.std.proofs.Common.{take}
use Rattle.lobby_lines.specs.Layout.{IsTable}
use Rattle.lobby_lines.proofs.table.Table.of.Given as goal

abbrev pub invariant-loop-item : goal.invariant-loop-item
invariant-loop-item g l = IsTable g.T.Listed.row_at g.T.Listed.shown (take l.item-index l.items) l.rows.items l.text.items
