use Rattle.std.proofs.Common.{◌≡◌, ◌++◌, List, drop}
use Rattle.std.specs.List.{AllByRecursion}
use Rattle.record_play.specs.Files.{FileLines, HasPassed, IsReach, ListFiles, all_lines}
use Rattle.record_play.proofs.joining.join.Given as goal

-- the files so far are listed before whatever the rest of them list, and reach as far as the one that reaches least
abbrev pub invariant-loop-text : goal.invariant-loop-text
invariant-loop-text l = (l.file ≡ l.text-index)
    × ((done : List FileLines) × (l.lines.items ≡ all_lines done) × IsReach (λ p. AllByRecursion (HasPassed p) done) l.reach
    × ((later : List FileLines) → ListFiles l.file (drop l.text-index l.files) later → ListFiles 0 l.files (done ++ later)))
