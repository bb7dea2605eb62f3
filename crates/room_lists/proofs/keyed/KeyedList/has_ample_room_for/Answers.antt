use Rattle.std.proofs.Common.{◌≡◌, ◌∙◌, ◌≤◌, ◌+◌, sym, subst, rules, take, length}
use Rattle.std.specs.Prelude.{ℕ}
use Rattle.room_lists.specs.Keyed.{has_key, with_items}
use Rattle.room_lists.proofs.Counted.{within_more, within_same}
use Rattle.room_lists.proofs.keyed.KeyedList.has_ample_room_for.Goals as goal
use Rattle.room_lists.proofs.keyed.KeyedList.has_ample_room_for.Goals.{then-not-has, else-not-has}

pub loop-item-preserved : goal.loop-item-preserved
loop-item-preserved g c =
    let key_of = g.T.Keyed.key_of in
    let next = length (with_items key_of c.args.self.now (take (c.loop-item.item-index + 1) c.args.items.now)) in
    let there : c.has.result ≡ has_key key_of (key_of c.item-item.result) c.args.self.now = search rules in
    elim c.if-not-has.branch [
      | then-not-has w ↦ subst (λ (n : ℕ). next ≤ n) (sym w.most-is)
          (within_more key_of c.args.self.now c.args.items.now c.loop-item.item-index c.item-item.result (search rules) c.item-item.is c.loop-item.most c.loop-item.invariant)
      | else-not-has w ↦ subst (λ (n : ℕ). next ≤ n) (sym w.most-is)
          (within_same key_of c.args.self.now c.args.items.now c.loop-item.item-index c.item-item.result (search rules) c.item-item.is c.loop-item.most c.loop-item.invariant
          (sym there ∙ w.if-not-has.false))
    ]
