use Rattle.std.proofs.Common.{◌≡◌, ◌∙◌, ◌+◌, ap, sym, subst, rules, drop}
use Rattle.std.proofs.lemmas.List.{at_drop_more}
use Rattle.line_words.proofs.Keyed.{stands_for}
use Rattle.room_lists.specs.Keyed.{AreKept, items_of, without_key, without_keys}
use Rattle.room_lists.proofs.Kept.{items_removed, kept_removed, own}
use Rattle.room_lists.proofs.keyed.KeyedList.remove_each.Goals as goal

pub loop-key-preserved : goal.loop-key-preserved
loop-key-preserved g c =
    let key_of = g.T.Keyed.key_of in
    let whole = g.T.Keyed.whole in
    let key = c.key-item.result in
    let old = c.loop-key.self-inside.by_key.entries in
    let left = drop (c.loop-key.key-index + 1) c.args.keys.now in
    let gone = c.shift_remove.ensures.entries in
    let kept : items_of whole c.shift_remove.new.self.entries ≡ without_key key_of key (items_of whole old) =
    ap (items_of whole) gone ∙ items_removed key_of whole key old c.loop-key.invariant.keys c.loop-key.invariant.apart in
    record {
      keys = subst (AreKept key_of whole) (sym gone) (kept_removed key_of whole (stands_for own key) old c.loop-key.invariant.keys);
      apart = c.shift_remove.ensures.unique;
      said = ap (λ items. without_keys key_of items left) kept
          ∙ ap (λ k. without_keys key_of (without_key key_of k (items_of whole old)) left) c.key-item.is
          ∙ sym (at_drop_more (without_keys key_of (items_of whole old)) c.args.keys.now c.loop-key.key-index key (search rules))
          ∙ c.loop-key.invariant.said;
    }
