use Rattle.std.proofs.Common.{take}
use Rattle.std.specs.Map.{keys_of}
use Rattle.lobby_lines.specs.Layout.{place, itself, IsTable}
use Rattle.lobby_lines.proofs.views.channel_table.Given as goal

abbrev pub invariant-loop-k : goal.invariant-loop-k
invariant-loop-k l = IsTable place itself (take l.k (keys_of l.channels)) l.rows.items l.text.items
