use Rattle.std.proofs.Common.{◌≡◌, ◌∷◌, ap, sym, subst, ◌∙◌}
use Rattle.std.specs.Prelude.{IfSome, slice_index_or}
use Rattle.lobby_connections.specs.Attended.{IsAttended}
use Rattle.lobby_connections.specs.Joined.{keys_in}
use Rattle.worker_loop.proofs.turns.finish.Goals as goal

pub returns-in_default-clause-attended : goal.returns-in_default-clause-attended
returns-in_default-clause-attended g c rest a =
    let key = c.key_at-key.ensures ∙ ap (λ keys. slice_index_or keys c.args.place 0) c.take_served.ensures.keys in
    c.turn.ensures.attended rest (subst (λ k. IsAttended c.args.connections.now (k ∷ rest)) (sym key) a)

pub returns-clause-attended : goal.returns-clause-attended
returns-clause-attended g c rest a =
    let at = slice_index_or (keys_in c.args.together.now) c.args.place 0 in
    let key : c.in-Some.served.key ≡ at = subst (λ had. IfSome had (λ it. it.key ≡ at)) c.in-Some.is c.take_served.ensures.key in
    c.end.ensures.attended rest (subst (λ k. IsAttended c.args.connections.now (k ∷ rest)) (sym key) a)
