use Rattle.std.proofs.Common.{◌≡◌, suc, ◌+◌, ◌<◌, ◌≤◌, ◌++◌, ◌∷◌, [], length, drop, ap, sym, subst, ◌∙◌, rules, arith}
use Rattle.std.proofs.Math.ListN.{drop_of_length-le}
use Rattle.std.proofs.Math.Seq.{drop-cons}
use Rattle.lobby_connections.specs.Attended.{IsAttended}
use Rattle.lobby_connections.specs.Joined.{keys_in}
use Rattle.lobby_connections.specs.Told.{keys_of}
use Rattle.worker_loop.proofs.worker.WorkerLoop.turn_ready.Goals as goal

pub loop-event-preserved : goal.loop-event-preserved
loop-event-preserved g c =
    let events = c.told-events.result.now in
    let i = c.loop-event.event-index in
    let lt : i < length events = search rules in
    let behind : suc i ≡ i + 1 = omega arith in
    let first : keys_of (drop i events) ≡ c.token-token.result.0 ∷ keys_of (drop (suc i) events) =
    ap keys_of (drop-cons events i _ lt) ∙ ap (λ k. k ∷ keys_of (drop (suc i) events)) (sym (ap (λ t. t.0) c.token-token.ensures)) in (
      c.join_told-pass.ensures.desk ∙ c.loop-event.invariant.0,
      c.join_told-pass.ensures.number ∙ c.loop-event.invariant.1,
      c.join_told-pass.ensures.place,
      λ h. subst (λ n. IsAttended c.join_told-pass.new.connections (keys_in c.join_told-pass.new.together ++ keys_of (drop n events))) behind
          (c.join_told-pass.ensures.attended _ (subst (λ keys. IsAttended c.loop-event.connections (keys_in c.loop-event.together ++ keys)) first (c.loop-event.invariant.3 h))),
    )

pub returns-clause-attended : goal.returns-clause-attended
returns-clause-attended g c h =
    let events = c.told-events.result.now in
    let le : length events ≤ c.loop-event.event-index = search rules in
    c.turn_together.ensures.attended []
    (subst (λ es. IsAttended c.loop-event.connections (keys_in c.loop-event.together ++ keys_of es)) (drop_of_length-le events le) (c.loop-event.invariant.3
    (subst (λ es. IsAttended c.args.self.now.connections (keys_of es)) (sym c.told-events.ensures) h)))
