use Rattle.std.proofs.Common.{map}
use Rattle.std.specs.Map.Iter.{deref_pair}
use Rattle.lobby_lines.specs.Layout.{IsTable}
use Rattle.lobby_lines.specs.Rows.{battle_row, battle_shown}
use Rattle.lobby_lines.proofs.views.battle_table.Given as goal

abbrev pub invariant-loop-number : goal.invariant-loop-number
invariant-loop-number l = IsTable battle_row battle_shown (map deref_pair l.yielded) l.rows.items l.text.items
