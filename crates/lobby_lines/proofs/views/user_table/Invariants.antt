use Rattle.std.proofs.Common.{map}
use Rattle.std.specs.Map.Iter.{deref_pair}
use Rattle.lobby_lines.specs.Layout.{IsTable}
use Rattle.lobby_lines.specs.Rows.{user_row, user_shown}
use Rattle.lobby_lines.proofs.views.user_table.Given as goal

abbrev pub invariant-loop-name : goal.invariant-loop-name
invariant-loop-name l = IsTable user_row user_shown (map deref_pair l.yielded) l.rows.items l.text.items
