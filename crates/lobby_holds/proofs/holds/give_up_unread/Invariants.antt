use Rattle.std.proofs.Common.{◌≡◌}
use Rattle.lobby_holds.proofs.Drains.{LetsFull}
use Rattle.lobby_holds.proofs.holds.give_up_unread.Given as goal

abbrev pub invariant-loop : goal.invariant-loop
invariant-loop g l =
    (l.pass.desk ≡ l.fn.pass.desk)
    × (l.pass.worker.number ≡ l.fn.pass.worker.number)
    × LetsFull l.fn.pass l.pass l.fn.conn.session.client l.counter
