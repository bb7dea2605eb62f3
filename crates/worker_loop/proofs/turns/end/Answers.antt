use Rattle.std.proofs.Common.{◌∷◌, sym, subst}
use Rattle.lobby_connections.specs.Attended.{IsAttended}
use Rattle.worker_loop.proofs.turns.end.Goals as goal

pub returns-clause-attended : goal.returns-clause-attended
returns-clause-attended g c rest a =
    let on = c.go_on_if_leaving-pass.ensures in
    c.end_turn.ensures rest (subst (λ k. IsAttended c.go_on_if_leaving-pass.new.connections (k ∷ rest)) (sym on.key)
    (subst (λ t. IsAttended t (c.args.served.key ∷ rest)) (sym on.table) a))
