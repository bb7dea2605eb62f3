use Rattle.std.proofs.Common.{rules, refl, sym, subst}
use Rattle.lobby_lock.specs.Passes.{ShownPass, pass_after}
use Rattle.lobby_holds.proofs.Joins.{held_none}
use Rattle.lobby_connections.specs.Shared.{GoOn}
use Rattle.lobby_connections.proofs.Standings.{go_on_taken, go_on_then}
use Rattle.lobby_connections.proofs.sharing.speak_all.Goals as goal

pub loop-preserved : goal.loop-preserved
loop-preserved g c =
    let held = c.take-held.result in
    let s = c.speak_from-next in
    let taken = go_on_taken c.loop.seats c.loop.pass (pass_after held) c.loop.together (held_none c.loop.pass (pass_after held) held held c.take-held.ensures.taken refl refl) in (
      search rules,
      search rules,
      search rules,
      subst (λ (p : ShownPass). GoOn c.args.seats.now c.args.pass c.args.together.now s.new.seats p s.new.together) (sym c.give-pass.ensures.pass)
          (go_on_then _ _ _ _ _ _ _ _ _ c.loop.invariant.3 (go_on_then _ _ _ _ _ _ _ _ _ taken s.ensures.speaks)),
    )
