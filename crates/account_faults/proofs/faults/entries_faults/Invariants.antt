use Rattle.std.proofs.Common.{◌≡◌, ◌+◌, ◌++◌, [], drop}
use Rattle.toml.specs.View.{items_view}
use Rattle.account_faults.specs.Faults.{entries_faults}
use Rattle.account_faults.proofs.faults.entries_faults.Given as goal

-- the faults of the entries so far, and those of the entries that are left behind them
abbrev pub invariant-loop-k : goal.invariant-loop-k
invariant-loop-k l =
    l.faults.items ++ entries_faults l.format (l.k + 1) l.names (items_view (drop l.k l.entries))
    ≡ entries_faults l.format 1 [] (items_view l.entries)
