use Rattle.std.proofs.Common.{◌≡◌, ◌+◌, ◌≤◌, ℕ, List, length}
use Rattle.lobby_lock.specs.Passes.{pass_after}
use Rattle.lobby_holds.specs.Wire.{Wire}
use Rattle.lobby_holds.specs.Snapshot.{among}
use Rattle.lobby_holds.specs.Holds.{SaysLines}
use Rattle.lobby_holds.proofs.holds.say_lines.Given as goal

abbrev pub invariant-loop-lines : goal.invariant-loop-lines
invariant-loop-lines g l =
    ((others : List ℕ) (wire : Wire) → SaysLines (among others l.fn.conn wire (pass_after l.fn.held)) (among others l.conn wire (pass_after l.held)) l.lines l.wakes l.fn.held.lobby.told l.held.lobby.told) × (l.held.pass ≡ l.fn.held.pass)
    × (length l.held.events ≡ length l.fn.held.events + l.lines)
    × (l.lines ≤ 32)
    × (l.conn.unfed ≡ l.fn.conn.unfed)
    × (length l.held.events ≤ 32)
