use Rattle.std.proofs.Common.{◌≡◌, ap, ◌∙◌, subst}
use Rattle.std.specs.Prelude.{slice_get}
use Rattle.std.specs.List.{AllByRecursion}
use Rattle.crossbeam_queue.specs.Passes.{view}
use Rattle.lobby_lock.specs.declared.view.Worker.{Worker}
use Rattle.lobby_lock.specs.History.{made_by}
use Rattle.lobby_lock.specs.Passes.{ShownPass}
use Rattle.lobby_lock.proofs.Moves.{closes}
use Rattle.lobby_lock.proofs.Counts.{closed}
use Rattle.lobby_lock.proofs.desk.Desk.close.Goals as goal

pub fetch-laid-requires-clause-rule : goal.fetch-laid-requires-clause-rule
fetch-laid-requires-clause-rule g c = λ place. closes place _ c.pass.invariant.alive

pub invariant_of-result : goal.invariant_of-result
invariant_of-result g c =
    let pass = c.pass.invariant in
    let first = ap (λ (p : ShownPass). p.worker.number) c.pass.view_is ∙ c.requires.first in
    closed _ _ _ _ _ _ _ c.fetch-laid.ensures.rule first pass.counts pass.counted (λ k low high none. c.in_default.ensures.none k low high (ap (λ l. slice_get l k) c.as_slice.ensures.value ∙ none))

pub returns-clause-taken_back : goal.returns-clause-taken_back
returns-clause-taken_back g c =
    let history = (view c.fetch-laid.new.pass).worker.seen in
    subst (λ (p : ShownPass). AllByRecursion {X = Worker} (λ worker. made_by worker.number history ≡ worker.mine) p.taken_back) c.pass.view_is c.fetch-laid.ensures.rule.taken_back
