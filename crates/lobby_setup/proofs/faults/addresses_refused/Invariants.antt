use Rattle.std.proofs.Common.{◌+◌, ◌++◌, List, drop}
use Rattle.toml.specs.View.{items_view}
use Rattle.lobby_setup.specs.Faults.{AreProxyFaults}
use Rattle.lobby_setup.specs.declared.error.Refusal.{Refusal}
use Rattle.lobby_setup.proofs.faults.addresses_refused.Given as goal

-- the faults of the values that are left come behind those so far
abbrev pub invariant-loop-k : goal.invariant-loop-k
invariant-loop-k l =
    (rest : List Refusal) → AreProxyFaults (l.k + 1) (items_view (drop l.k l.values)) rest → AreProxyFaults 1 (items_view l.values) (l.faults.items ++ rest)
