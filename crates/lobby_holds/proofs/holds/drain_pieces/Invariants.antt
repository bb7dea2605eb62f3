use Rattle.std.proofs.Common.{◌≡◌, ◌+◌, ◌≤◌, length}
use Rattle.lobby_lock.specs.Passes.{pass_after}
use Rattle.lobby_holds.specs.Holds.{Stands, DrainedBehind}
use Rattle.lobby_holds.proofs.holds.drain_pieces.Given as goal

abbrev pub invariant-loop : goal.invariant-loop
invariant-loop l =
    DrainedBehind (pass_after l.fn.held) (pass_after l.held) l.fn.client l.fn.unwritten.bytes l.unwritten.bytes l.piece
    × Stands l.held
    × (length l.held.events ≤ length l.fn.held.events + (l.counter + l.counter))
    × (l.held.pass ≡ l.fn.held.pass)
