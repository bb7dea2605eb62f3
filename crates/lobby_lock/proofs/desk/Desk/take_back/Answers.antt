use Rattle.std.proofs.Common.{rules, ap, ◌∙◌, subst, arith}
use Rattle.crossbeam_queue.specs.Passes.{view}
use Rattle.lobby_lock.specs.declared.view.View.{View}
use Rattle.lobby_lock.specs.Passes.{ShownPass}
use Rattle.lobby_lock.specs.Rule.{LastEnded}
use Rattle.lobby_lock.proofs.Counts.{counts_with}
use Rattle.lobby_lock.proofs.Moves.{merges, learns}
use Rattle.lobby_lock.proofs.desk.Desk.take_back.Goals as goal

pub absorb-requires-clause-rule : goal.absorb-requires-clause-rule
absorb-requires-clause-rule c =
    let p = c.pass.invariant in
    let e = c.ended.invariant in
    merges _ _ _ _ p.alive e.alive p.holds e.holds

pub learn_as-requires-clause-rule : goal.learn_as-requires-clause-rule
learn_as-requires-clause-rule c = learns _ _ (ap (λ v. v.alive) c.absorb.ensures.rule ∙ c.pass.invariant.alive)

pub invariant_of-result : goal.invariant_of-result
invariant_of-result c =
    let p = c.pass.invariant in
    let e = c.ended.invariant in
    let now = c.learn_as.ensures.queue.1 ∙ c.absorb.ensures.rule in
    let first = ap (λ (q : ShownPass). q.worker.number) c.pass.view_is ∙ c.requires.first in
    let last = subst (λ (v : View). LastEnded v v.taken_back) c.absorb.ensures.rule c.learn_as.ensures.rule.1 in
    let low = last.handed_out first in
    let few = p.counted.few in
    let counted = counts_with (view c.pass.inside.inner) (view c.ended.inside.inner) _ _ _ _ p.counted (omega (arith, low, few, p.counts)) e.counted.made_is in
    record {
      slots = search rules;
      alive = search rules;
      holds = search rules;
      numbered = search rules;
      below = p.below;
      counts = search rules;
      counted = rw now (rw e.numbered counted);
      empty = p.empty;
    }
