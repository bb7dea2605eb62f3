use Rattle.std.proofs.Common.{◌≡◌, ◌<◌, ℕ, []}
use Rattle.std.specs.Prelude.{None}
use Rattle.lobby_machine.specs.Shown.{dirty_at}
use Rattle.lobby_hall.specs.Copied.{completed}
use Rattle.lobby_hall.specs.Following.{Follows}
use Rattle.lobby_hall.proofs.record.Record.catch_up_changed.Given as goal

-- nobody waits in the lists of the workers before this one
abbrev pub invariant-loop-home : goal.invariant-loop-home
invariant-loop-home l = record {
  follows : Follows l.homes l.lobby l.behind l.self;
  plain : l.lobby.plain ≡ l.fn.lobby.plain;
  kept : completed l.self l.fn.lobby.plain ≡ completed l.fn.self l.fn.lobby.plain;
  none : l.behind ≡ None;
  served : (worker : ℕ) → worker < l.home → dirty_at l.lobby worker ≡ [];
}
