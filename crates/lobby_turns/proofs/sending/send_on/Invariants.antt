use Rattle.std.proofs.Common.{◌≡◌, ℕ, ◌+◌, List}
use Rattle.lobby_holds.specs.Snapshot.{Snapshot, among, snapshot}
use Rattle.lobby_turns.specs.Receiving.{IsServed}
use Rattle.lobby_turns.specs.Sending.{MaySend, OnlyWrites, Sending, SendsNext}
use Rattle.lobby_turns.proofs.sending.send_on.Given as goal

abbrev pub invariant-loop-writes : goal.invariant-loop-writes
invariant-loop-writes g l =
    let first = snapshot l.fn.conn (g.L.Link.wire l.fn.link) l.fn.pass in
    let now = snapshot l.conn (g.L.Link.wire l.link) l.pass in
    ((old before : Snapshot) (others : List ℕ) → Sending old before 0 → SendsNext before (among others l.fn.conn (g.L.Link.wire l.fn.link) l.fn.pass) l.fn.state
    → Sending old (among others l.conn (g.L.Link.wire l.link) l.pass) l.writes)
    × ((made : ℕ) × (made + 1 ≡ l.writes) × OnlyWrites first now made)
    × MaySend first.wire 15
    × IsServed l.fn.conn l.conn l.fn.pass l.pass
    × (l.pass.desk ≡ l.fn.pass.desk)
    × (l.pass.worker.number ≡ l.fn.pass.worker.number)
