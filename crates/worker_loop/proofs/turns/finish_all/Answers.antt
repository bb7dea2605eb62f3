use Rattle.std.proofs.Common.{◌+◌, ◌<◌, ◌≤◌, ◌∷◌, ◌++◌, length, drop, get_or, ap, sym, subst, ◌∙◌, rules}
use Rattle.lobby_connections.specs.Attended.{IsAttended}
use Rattle.lobby_connections.specs.Joined.{keys_in}
use Rattle.worker_loop.proofs.Joined.{done, next}
use Rattle.worker_loop.proofs.turns.finish_all.Goals as goal

pub loop-place-preserved : goal.loop-place-preserved
loop-place-preserved g c =
    let keys = keys_in c.args.together.now in
    let i = c.loop-place.place in
    let l = c.loop-place.invariant in
    let lt : i < length keys = search rules in (
      c.finish-pass.ensures.desk ∙ l.0,
      c.finish-pass.ensures.number ∙ l.1,
      c.finish-pass.ensures.keys ∙ l.2,
      λ rest a. c.finish-pass.ensures.attended (drop (i + 1) keys ++ rest)
          (subst (λ k. IsAttended c.loop-place.connections (k ∷ (drop (i + 1) keys ++ rest))) (sym (ap (λ ks. get_or ks i 0) l.2))
          (next c.loop-place.connections keys i rest lt (l.3 rest a))),
    )

pub returns-clause-attended : goal.returns-clause-attended
returns-clause-attended g c rest a =
    let keys = keys_in c.args.together.now in
    let le : length keys ≤ c.loop-place.place = search rules in
    done c.loop-place.connections keys c.loop-place.place rest le (c.loop-place.invariant.3 rest a)
