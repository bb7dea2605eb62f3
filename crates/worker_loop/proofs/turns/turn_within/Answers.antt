use Rattle.std.proofs.Common.{◌≡◌, ◌∷◌, sym, subst}
use Rattle.std.specs.Prelude.{IfSome}
use Rattle.lobby_connections.specs.Attended.{IsAttended}
use Rattle.lobby_connections.proofs.Lines.{attends_none}
use Rattle.worker_loop.proofs.turns.turn_within.Goals as goal

pub returns-then-not-begins_turn-clause-attended : goal.returns-then-not-begins_turn-clause-attended
returns-then-not-begins_turn-clause-attended g c rest a =
    attends_none _ _ (c.begins_turn.ensures.no c.if-not-begins_turn.true) rest a

pub returns-in-Some-clause-attended : goal.returns-in-Some-clause-attended
returns-in-Some-clause-attended g c rest a =
    let key : c.in-Some.served.key ≡ c.args.key = subst (λ had. IfSome had (λ it. it.key ≡ c.args.key)) c.in-Some.is c.serve-pass.ensures.key in
    c.end.ensures.attended rest (subst (λ k. IsAttended c.serve-pass.new.self (k ∷ rest)) (sym key)
    (subst (λ t. IsAttended t (c.args.key ∷ rest)) (sym c.serve-pass.ensures.table) a))
