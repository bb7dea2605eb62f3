use Rattle.std.proofs.Common.{◌≡◌, ◌≤◌, ◌<◌, ◌+◌, ◌-◌, take, get_or}
use Rattle.record_play.specs.declared.file.RecordLine.{RecordLine}
use Rattle.record_play.proofs.Rising.{Leads}
use Rattle.record_play.proofs.joining.front.Given as goal

-- the lines so far lead up to what is missing, and the last of them is of the place before it, in this file
abbrev pub invariant-loop-line : goal.invariant-loop-line
invariant-loop-line l =
    (l.count ≡ l.line-index) × Leads 0 0 (take l.line-index l.lines) l.missing l.file × (l.missing ≤ l.line-index)
    × (l.line-index ≡ 0 → l.missing ≡ 0)
    × ((d : RecordLine) → 0 < l.line-index → (get_or l.lines (l.line-index - 1) d).place + 1 ≡ l.missing)
    × ((d : RecordLine) → 0 < l.line-index → (get_or l.lines (l.line-index - 1) d).file ≡ l.file)
