use Rattle.std.proofs.Common.{◌≤◌, ℕ, rules, sym, ap, ◌∙◌, subst, inl, inr}
use Rattle.std.specs.Prelude.{IfSome, Option}
use Rattle.lobby_lock.specs.Passes.{ShownPass}
use Rattle.lobby_turns.specs.declared.serving.Progress.{Progress}
use Rattle.lobby_turns.specs.Turned.{IsUnderway}
use Rattle.lobby_connections.specs.Shared.{Seats, ServesAt}
use Rattle.lobby_connections.specs.declared.serving.Ended.{Ended}
use Rattle.lobby_connections.specs.declared.together.Standing.TheVariants as standing
use Rattle.lobby_connections.proofs.Standings.{begins_or_goes_on, go_on_one}
use Rattle.lobby_connections.proofs.sharing.finish_with.Goals.{in-Waits, in-Underway}
use Rattle.lobby_connections.proofs.sharing.finish_with.Goals as goal

pub returns-in-Some-clause-finishes : goal.returns-in-Some-clause-finishes
returns-in-Some-clause-finishes g c =
    let seats = c.args.seats.now in
    let f = c.finish_at-pass in
    let key = c.key_at-key.result in
    let before = c.standing_at.result in
    let progress = c.match-standing_at.progress in
    let after = standing.Over c.in-Some.ended in
    go_on_one seats c.args.pass c.args.together.now c.settle.new.seats f.result.0 c.stand.new.self c.args.place before after c.requires.place c.standing_at.ensures.place c.standing_at.ensures.standing
    (search rules) (search rules) (search rules)
    (λ start most few. subst (λ (k : ℕ). ServesAt start seats c.args.pass c.settle.new.seats f.result.0 most k before after) c.key_at-key.ensures
    (subst (λ (s : Seats). ServesAt start seats c.args.pass s f.result.0 most key before after) (sym c.settle.ensures)
    (begins_or_goes_on start seats c.args.pass f.new.seats f.result.0 most key before progress after
    (elim c.match-standing_at.branch [
      | in-Waits w ↦
          inl (
            w.in-Waits.is,
            λ at. subst (λ (p : Progress). IsUnderway at at p) (sym w.progress-is) (w.new-progress.ensures.begins at),
            (w.allowance.result, ap (λ p. p.allowance) w.progress-is ∙ w.new-progress.ensures.allowance, subst (λ (n : ℕ). n ≤ most) (sym w.allowance.ensures) few),
          )
      | in-Underway w ↦ inr (w.in-Underway.is ∙ ap (λ (p : Progress). standing.Underway p) (sym w.progress-is))
    ])
    (subst (λ (o : Option Ended). IfSome o (λ e. (start : ShownPass) (most : ℕ) → ServesAt start seats c.args.pass f.new.seats f.result.0 most key (standing.Underway progress) (standing.Over e))) c.in-Some.is f.ensures.serves start most))))
