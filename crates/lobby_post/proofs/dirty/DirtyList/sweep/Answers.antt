use Rattle.std.proofs.Common.{inr, refl, sym, subst, rules}
use Rattle.std.proofs.lemmas.Fn.{filter_same}
use Rattle.lobby_post.specs.Dirty.{IsTrimmed, listings_of, stands}
use Rattle.lobby_post.proofs.Listed.{trimmed_filter}
use Rattle.lobby_post.proofs.dirty.DirtyList.sweep.Goals as goal

pub returns-clause-left : goal.returns-clause-left
returns-clause-left c =
    let kept = filter_same _ (stands (listings_of c.args.slots.now) c.args.home) _ (λ x b f' h. search rules) _ _ c.retain.ensures.filtered in
    rw (← c.self.view_is) (record {
      waiting = subst (IsTrimmed (stands (listings_of c.args.slots.now) c.args.home) c.self.inside.waiting.items) (sym kept)
          (trimmed_filter (stands (listings_of c.args.slots.now) c.args.home) c.self.inside.waiting.items);
      fresh = refl;
      idle = refl;
    })

pub returns-clause-swept : goal.returns-clause-swept
returns-clause-swept c =
    let kept = filter_same _ (stands (listings_of c.args.slots.now) c.args.home) _ (λ x b f' h. search rules) _ _ c.retain.ensures.filtered in
    rw (← c.self.view_is) (inr (refl, kept))
