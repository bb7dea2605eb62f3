use Rattle.std.proofs.Common.{◌≡◌, ◌+◌, drop}
use Rattle.toml.specs.View.{items_view}
use Rattle.lobby_setup.specs.Motd.{motd_fault}
use Rattle.lobby_setup.proofs.motd.motd_fault.Given as goal

-- no value so far has a fault
abbrev pub invariant-loop-k : goal.invariant-loop-k
invariant-loop-k l = motd_fault 1 (items_view l.values) ≡ motd_fault (l.k + 1) (items_view (drop l.k l.values))
