use Rattle.std.proofs.Common.{◌≡◌, ◌++◌, ◌≤◌, ◌+◌, List, length}
use Rattle.record_play.specs.declared.file.RecordLine.{RecordLine}
use Rattle.record_play.proofs.Filing.{SoFar}
use Rattle.record_play.proofs.file.add_lines.Given as goal

-- what was added are the lines before the rest
abbrev pub invariant-loop-line : goal.invariant-loop-line
invariant-loop-line l =
    (here : List RecordLine) × (l.lines.items ≡ l.initial.lines.items ++ here) × (l.number + length l.rest ≤ length l.text)
    × SoFar l.file l.text here l.number l.least l.rest

abbrev pub decreases-loop-line : goal.decreases-loop-line
decreases-loop-line l = length l.rest
