use Rattle.std.proofs.Common.{◌≡◌, ◌+◌, ◌++◌, drop}
use Rattle.toml.specs.View.{items_view}
use Rattle.lobby_setup.specs.Faults.{line_faults}
use Rattle.lobby_setup.proofs.faults.lines_refused.Given as goal

-- the faults of the values so far, and those of the values that are left behind them
abbrev pub invariant-loop-k : goal.invariant-loop-k
invariant-loop-k l = l.faults.items ++ line_faults (l.k + 1) (items_view (drop l.k l.values)) ≡ line_faults 1 (items_view l.values)
