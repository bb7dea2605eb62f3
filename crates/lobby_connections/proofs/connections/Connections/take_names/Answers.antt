use Rattle.std.proofs.Common.{sym, subst}
use Rattle.lobby_connections.specs.Attended.{IsAttended}
use Rattle.lobby_connections.proofs.connections.Connections.take_names.Goals as goal

pub returns-clause-attended : goal.returns-clause-attended
returns-clause-attended c rest a =
    let b = subst (λ t. IsAttended t rest) (sym c.self.view_is) a in b.all
