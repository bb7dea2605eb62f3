use Rattle.lobby_holds.specs.Snapshot.{among}
use Rattle.lobby_turns.proofs.serving.gather.Goals as goal

pub returns-clause-gathers : goal.returns-clause-gathers
returns-clause-gathers g c = λ others.
    let at = among others c.args.conn.now (g.L.Link.wire c.args.link.now) c.args.pass in
    c.receive-pass.ensures.receives at (c.new-from.ensures at)
