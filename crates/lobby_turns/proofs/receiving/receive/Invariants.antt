use Rattle.std.proofs.Common.{◌≡◌, ◌+◌, ◌-◌, ◌≤◌, ℕ, [], true, false}
use Rattle.lobby_holds.specs.Snapshot.{Snapshot, among}
use Rattle.lobby_turns.specs.Receiving.{GaveBytes, IsReceiving, IsServed, MadeReads}
use Rattle.lobby_turns.proofs.receiving.receive.Given as goal

abbrev pub invariant-loop-allowance : goal.invariant-loop-allowance
invariant-loop-allowance g l =
    let from = l.fn.from in
    ((old : Snapshot) → IsReceiving old (among old.others l.fn.conn (g.L.Link.wire l.fn.link) l.fn.pass) from.lines from.reads from.bytes from.all.wakes from.all.told from.is_dry
    → IsReceiving old (among old.others l.conn (g.L.Link.wire l.link) l.pass) l.at.lines l.at.reads l.at.bytes l.at.all.wakes l.at.all.told l.at.is_dry)
    × (l.looks ≡ true → GaveBytes (g.L.Link.wire l.link))
    × (l.at.is_dry ≡ true → l.conn.unfed ≡ [])
    × ((made : ℕ) × (from.reads + made ≡ l.at.reads) × (made ≤ 16) × MadeReads (g.L.Link.wire l.fn.link) (g.L.Link.wire l.link) made)
    × IsServed l.fn.conn l.conn l.fn.pass l.pass
    × (l.fn.speaks ≡ false → l.pass ≡ l.fn.pass)
    × (l.pass.desk ≡ l.fn.pass.desk)
    × (l.pass.worker.number ≡ l.fn.pass.worker.number)

abbrev pub decreases-loop-allowance : goal.decreases-loop-allowance
decreases-loop-allowance g l = (64 - l.at.lines) + (16 - l.at.reads)
