use Rattle.std.proofs.Common.{◌≡◌, ◌≤◌}
use Rattle.lobby_tests.proofs.turns.desk.hand_out_all.Given as goal

abbrev pub invariant-loop : goal.invariant-loop
invariant-loop l = (l.pass.desk ≡ l.desk) × (l.pass.worker.number ≡ 0) × (l.count ≤ l.counter)
