use Rattle.std.proofs.Common.{◌≡◌, ◌≤◌, ℕ, [], length}
use Rattle.std.specs.Prelude.{None}
use Rattle.lobby_machine.specs.Shown.{dirty_at}
use Rattle.lobby_hall.specs.Following.{StillFollows}
use Rattle.lobby_hall.proofs.record.Record.catch_up_home.Given as goal

-- nobody is behind, and lists that were empty still are
abbrev pub invariant-loop-client : goal.invariant-loop-client
invariant-loop-client l = record {
  plain : l.lobby.plain ≡ l.fn.lobby.plain;
  follows : StillFollows l.fn.lobby l.fn.behind l.fn.self l.lobby l.behind l.self;
  none : l.behind ≡ None;
  others : (worker : ℕ) → worker ≤ 63 → dirty_at l.fn.lobby worker ≡ [] → dirty_at l.lobby worker ≡ [];
}

abbrev pub decreases-loop-client : goal.decreases-loop-client
decreases-loop-client l = length (dirty_at l.lobby l.home)
