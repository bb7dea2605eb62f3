use Rattle.std.proofs.Common.{◌≡◌, take}
use Rattle.record_lines.specs.Masks.{stars}
use Rattle.record_lines.proofs.masks.stars_for.Given as goal

abbrev pub invariant-loop : goal.invariant-loop
invariant-loop l = l.stars.items ≡ stars (take l.index l.items)
