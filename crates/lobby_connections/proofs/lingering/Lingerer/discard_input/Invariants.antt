use Rattle.std.proofs.Common.{◌≤◌}
use Rattle.lobby_connections.proofs.lingering.Lingerer.discard_input.Given as goal

abbrev pub invariant-loop : goal.invariant-loop
invariant-loop l = l.self.left ≤ l.fn.self.left
