use Rattle.std.proofs.Common.{◌≡◌, ℕ, [], take}
use Rattle.std.specs.List.{Contains}
use Rattle.lobby_connections.specs.Attended.{AllBut, IsThere, Owes}
use Rattle.lobby_connections.specs.Told.{keys_of}
use Rattle.lobby_connections.proofs.connections.Connections.note_all.Given as goal

abbrev pub invariant-loop-event : goal.invariant-loop-event
invariant-loop-event l = record {
  told : (key : ℕ) → Contains (keys_of (take l.event-index l.events)) key → IsThere l.self key → Owes l.self key;
  rest : l.self ≡ record l.fn.self { claims = l.self.claims };
  attended : AllBut l.fn.self [] → AllBut l.self (keys_of l.events);
}
