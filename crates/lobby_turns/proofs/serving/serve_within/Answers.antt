use Rattle.std.proofs.Common.{ℕ, subst}
use Rattle.std.specs.Prelude.{Option}
use Rattle.lobby_holds.specs.Snapshot.{snapshot}
use Rattle.lobby_turns.specs.Turned.{Turned}
use Rattle.lobby_turns.proofs.serving.serve_within.Goals as goal

pub returns-clause-turned : goal.returns-clause-turned
returns-clause-turned g c =
    let at = snapshot c.args.conn.now (g.L.Link.wire c.args.link.now) c.args.pass in
    let after = snapshot c.finish.new.conn (g.L.Link.wire c.finish.new.link) c.finish.result.0 in
    subst (λ (allowance : Option ℕ). Turned at after allowance c.finish.result.1 c.finish.result.2) c.new.ensures.allowance (c.finish.ensures.turned at (c.new.ensures.begins at))
