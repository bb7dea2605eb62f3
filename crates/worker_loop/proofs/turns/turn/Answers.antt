use Rattle.std.proofs.Common.{◌∷◌, sym, subst}
use Rattle.lobby_connections.specs.Attended.{IsAttended}
use Rattle.worker_loop.proofs.turns.turn.Goals as goal

pub returns-then-is_put_off-clause-attended : goal.returns-then-is_put_off-clause-attended
returns-then-is_put_off-clause-attended g c = c.is_put_off.ensures.attended c.if-is_put_off.true

pub returns-clause-attended : goal.returns-clause-attended
returns-clause-attended g c rest a =
    c.turn_within.ensures.attended rest (subst (λ t. IsAttended t (c.args.key ∷ rest)) (sym (c.is_put_off.ensures.now c.if-is_put_off.false)) a)
