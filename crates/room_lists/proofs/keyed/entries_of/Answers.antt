use Rattle.std.proofs.Common.{◌∙◌, [], ◌∷◌, ◌++◌, ap, sym, subst}
use Rattle.std.proofs.lemmas.List.{map-append}
use Rattle.room_lists.specs.Keyed.{AreKept, items_of}
use Rattle.room_lists.proofs.Kept.{kept_with}
use Rattle.room_lists.proofs.keyed.entries_of.Goals as goal

pub loop-item-preserved : goal.loop-item-preserved
loop-item-preserved g c =
    let key_of = g.T.Keyed.key_of in
    let whole = g.T.Keyed.whole in
    let entry = c.in_ok-entry.entry in
    record {
      items = ap (items_of whole) c.in_ok-push.ensures.items
          ∙ map-append (λ e. whole e.0 e.1) c.loop-item.entries.items (entry ∷ [])
          ∙ ap (λ items. items ++ whole entry.0 entry.1 ∷ []) c.loop-item.invariant.items
          ∙ ap (λ item. c.loop-item.yielded ++ item ∷ []) c.in_ok-entry.ensures.whole;
      keys = subst (AreKept key_of whole) (sym c.in_ok-push.ensures.items)
          (kept_with key_of whole c.loop-item.entries.items entry.0 entry.1 c.loop-item.invariant.keys
          (c.in_ok-entry.ensures.key ∙ ap key_of (sym c.in_ok-entry.ensures.whole)));
    }
