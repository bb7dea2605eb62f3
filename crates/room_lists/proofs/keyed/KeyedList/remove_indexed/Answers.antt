use Rattle.std.proofs.Common.{◌∙◌, ap, sym, subst, not, filter, rules}
use Rattle.line_words.specs.Table.{is_among}
use Rattle.indexmap.proofs.CallerLemmas.{filter-RetainsPairs}
use Rattle.room_lists.specs.Keyed.{AreKept, items_of}
use Rattle.room_lists.proofs.Kept.{items_kept, some_kept}
use Rattle.room_lists.proofs.Seen.{words_of}
use Rattle.room_lists.proofs.keyed.KeyedList.remove_indexed.Goals as goal

pub invariant_of-self : goal.invariant_of-self
invariant_of-self g c =
    let kept = filter-RetainsPairs _ (λ e. not (is_among e.0 (words_of c.args.index.now.keys))) _ (λ k v b w g call. search rules) _ _ c.retain.ensures.filtered in (
      subst (AreKept g.T.Keyed.key_of g.T.Keyed.whole) (sym kept) (some_kept g.T.Keyed.key_of g.T.Keyed.whole _ c.self.inside.by_key.entries c.self.invariant.0),
      c.retain.ensures.unique,
    )

pub returns : goal.returns
returns g c =
    let kept = filter-RetainsPairs _ (λ e. not (is_among e.0 (words_of c.args.index.now.keys))) _ (λ k v b w g call. search rules) _ _ c.retain.ensures.filtered in
    ap (items_of g.T.Keyed.whole) kept
    ∙ items_kept g.T.Keyed.key_of g.T.Keyed.whole (λ k. not (is_among k (words_of c.args.index.now.keys))) c.self.inside.by_key.entries c.self.invariant.0
    ∙ ap (filter (λ item. not (is_among (g.T.Keyed.key_of item) (words_of c.args.index.now.keys)))) c.self.view_is
