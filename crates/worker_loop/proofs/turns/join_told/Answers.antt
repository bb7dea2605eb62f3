use Rattle.std.proofs.Common.{◌++◌, ◌∷◌, sym, subst}
use Rattle.lobby_connections.specs.Attended.{IsAttended}
use Rattle.lobby_connections.specs.Joined.{keys_in}
use Rattle.worker_loop.proofs.turns.join_told.Goals as goal

pub returns-then-not-is_full-clause-attended : goal.returns-then-not-is_full-clause-attended
returns-then-not-is_full-clause-attended g c rest a =
    c.join.ensures rest (c.read_told-pass.ensures.attended (keys_in c.args.together.now ++ (c.args.token.0 ∷ rest)) a)

pub returns-clause-attended : goal.returns-clause-attended
returns-clause-attended g c rest a =
    subst (λ keys. IsAttended c.turn_together.new.connections (keys ++ rest)) (sym c.turn_together.ensures.nobody)
    (c.turn_together.ensures.attended rest
    (c.join.ensures rest (c.read_told-pass.ensures.attended (keys_in c.args.together.now ++ (c.args.token.0 ∷ rest)) a)))
