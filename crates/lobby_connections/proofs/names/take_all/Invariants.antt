use Rattle.std.proofs.Common.{◌≡◌}
use Rattle.lobby_connections.proofs.names.take_all.Given as goal

abbrev pub invariant-loop : goal.invariant-loop
invariant-loop l = l.held.pass ≡ l.fn.held.pass
