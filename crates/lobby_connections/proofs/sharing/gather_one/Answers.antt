use Rattle.std.proofs.Common.{refl}
use Rattle.lobby_connections.proofs.Standings.{gathers_on}
use Rattle.lobby_connections.proofs.sharing.gather_one.Goals as goal

pub returns-clause-gathers : goal.returns-clause-gathers
returns-clause-gathers g c =
    let s = c.gather-pass in
    gathers_on c.args.connection.now _ c.args.pass s.result.0 c.args.allowance s.result.1 s.ensures.pass refl s.ensures.allowance s.ensures.serves s.ensures.gathers
