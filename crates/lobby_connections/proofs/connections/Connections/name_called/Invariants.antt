use Rattle.std.proofs.Common.{◌≡◌, ℕ, ◌⊎◌, List, length}
use Rattle.std.specs.Prelude.{IfSome}
use Rattle.std.specs.List.{Contains}
use Rattle.lobby_connections.specs.Attended.{AllBut, IsThere, Owes}
use Rattle.lobby_connections.specs.Table.{key_in}
use Rattle.lobby_connections.proofs.connections.Connections.name_called.Given as goal

abbrev pub invariant-loop-client : goal.invariant-loop-client
invariant-loop-client l = record {
  named : (client : ℕ) → Contains l.fn.self.called client → Contains l.self.called client ⊎ IfSome (key_in l.fn.self.keys client) (λ key. IsThere l.self key → Owes l.self key);
  keys : l.self.keys ≡ l.fn.self.keys;
  pending : l.self.is_pending ≡ l.fn.self.is_pending;
  attended : (rest : List ℕ) → AllBut l.fn.self rest → AllBut l.self rest;
}

abbrev pub decreases-loop-client : goal.decreases-loop-client
decreases-loop-client l = length l.self.called
