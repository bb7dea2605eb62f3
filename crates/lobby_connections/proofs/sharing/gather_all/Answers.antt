use Rattle.std.proofs.Common.{ℕ, rules, sym, ◌∙◌, subst}
use Rattle.lobby_lock.specs.Passes.{ShownPass}
use Rattle.lobby_connections.specs.Joined.{keys_in}
use Rattle.lobby_connections.specs.Shared.{AllStand, ServesAt}
use Rattle.lobby_connections.specs.declared.together.Standing.TheVariants as standing
use Rattle.lobby_connections.specs.declared.together.Together.{Together}
use Rattle.lobby_connections.proofs.Standings.{all_served}
use Rattle.lobby_connections.proofs.sharing.gather_all.Goals as goal

pub loop-place-preserved : goal.loop-place-preserved
loop-place-preserved g c =
    let i = c.loop-place.invariant in
    let n = c.gather_at-next in
    let start = c.args.pass in
    let most = c.args.together.now.allowance in
    let allowance = c.allowance-allowance.ensures ∙ i.3 in (
      search rules,
      search rules,
      search rules,
      search rules,
      search rules,
      λ first all. subst (λ (t : Together). AllStand first start n.new.seats start most (keys_in t) t.standings) (sym c.stand.ensures)
          (all_served first start c.loop-place.seats start n.new.seats start most (keys_in c.loop-place.together) c.loop-place.together.standings c.loop-place.place standing.Waits n.result.1 (search rules) c.standing_at.ensures.place (search rules)
          (subst (λ (x : ShownPass × (ℕ × ℕ)). ServesAt x.0 c.loop-place.seats x.0 n.new.seats x.0 x.1.0 x.1.1 standing.Waits n.result.1) (λ k. (i.0 k, (allowance k, c.key_at-key.ensures k))) n.ensures.gathers) (i.5 first all)),
    )
