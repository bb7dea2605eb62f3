use Rattle.std.specs.Prelude.{ℕ, List}
use Rattle.lobby_holds.specs.Snapshot.{among}
use Rattle.lobby_turns.proofs.Sendings.{Writing}
use Rattle.lobby_turns.proofs.sending.write_out.Given as goal

abbrev pub invariant-loop : goal.invariant-loop
invariant-loop g l = (others : List ℕ) → Writing (among others l.fn.conn (g.L.Link.wire l.fn.link) l.fn.pass) (among others l.conn (g.L.Link.wire l.link) l.pass) l.counter
