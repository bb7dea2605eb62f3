use Rattle.std.proofs.Common.{sym, subst}
use Rattle.lobby_connections.specs.Attended.{IsAttended}
use Rattle.lobby_connections.proofs.connections.Connections.begin_round.Goals as goal

pub returns-clause-attended : goal.returns-clause-attended
returns-clause-attended c rest a =
    c.go_over.ensures.attended rest (subst (λ t. IsAttended t rest) (sym c.begin_count.ensures) (record { all = a.all; called = a.called }))
