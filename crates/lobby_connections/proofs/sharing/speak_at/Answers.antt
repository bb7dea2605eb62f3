use Rattle.std.proofs.Common.{◌≤◌, ℕ, rules, sym, subst}
use Rattle.lobby_lock.specs.Passes.{pass_after}
use Rattle.lobby_connections.specs.Shared.{ServesAt}
use Rattle.lobby_connections.specs.declared.together.Standing.TheVariants as standing
use Rattle.lobby_connections.proofs.Standings.{go_on_one}
use Rattle.lobby_connections.proofs.sharing.speak_at.Goals as goal

pub returns-clause-speaks : goal.returns-clause-speaks
returns-clause-speaks g c =
    let s = c.say_at-progress in
    let before = pass_after c.args.held.now in
    let after = pass_after s.new.held in
    go_on_one c.args.seats.now before c.args.together.now s.new.seats after c.spend.new.self c.args.place (standing.Underway c.in-Underway.progress) (standing.Underway s.result) c.requires.place c.standing_at.ensures.place
    (search rules) (search rules) (search rules) (search rules)
    (λ start most few. subst (λ (k : ℕ). ServesAt start c.args.seats.now before s.new.seats after most k (standing.Underway c.in-Underway.progress) (standing.Underway s.result)) c.key_at-key.ensures
    (s.ensures.says start most (subst (λ (n : ℕ). n ≤ most) (sym c.allowance-allowance.ensures) few)))
