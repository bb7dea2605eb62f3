use Rattle.std.proofs.Common.{◌++◌, sym, subst}
use Rattle.lobby_connections.specs.Attended.{IsAttended}
use Rattle.lobby_connections.specs.Joined.{keys_in}
use Rattle.worker_loop.proofs.turns.turn_together.Goals as goal

pub returns-clause-attended : goal.returns-clause-attended
returns-clause-attended g c rest a =
    let served = c.serve_all-pass in
    c.finish_all-pass.ensures.attended rest
    (subst (λ keys. IsAttended served.new.connections (keys ++ rest)) (sym served.ensures.keys)
    (subst (λ t. IsAttended t (keys_in c.args.together.now ++ rest)) (sym served.ensures.table) a))
