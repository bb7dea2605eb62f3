use Rattle.std.proofs.Common.{◌≡◌, ◌+◌, ◌++◌, drop, None}
use Rattle.toml.specs.View.{items_view}
use Rattle.lobby_setup.specs.Motd.{lines_of, motd_fault}
use Rattle.lobby_setup.proofs.motd.copy_motd.Given as goal

-- the lines so far, and those of the values that are left, which have no fault
abbrev pub invariant-loop-value : goal.invariant-loop-value
invariant-loop-value l =
    (lines_of (items_view l.values) ≡ l.lines.items ++ lines_of (items_view (drop l.value-index l.values)))
    × (motd_fault (l.value-index + 1) (items_view (drop l.value-index l.values)) ≡ None)
