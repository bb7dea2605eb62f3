use Rattle.std.proofs.Common.{◌≡◌, ◌∙◌, ◌+◌, ◌<◌, ap, sym, rules, arith, take, length, cond, true, false}
use Rattle.std.specs.Prelude.{ℕ, Bool, ◌||◌}
use Rattle.room_lists.specs.Keyed.{has_key, with_items}
use Rattle.room_lists.proofs.Counted.{counted, first_within, over_limit}
use Rattle.room_lists.proofs.keyed.KeyedList.has_room_for_distinct.Goals as goal
use Rattle.room_lists.proofs.keyed.KeyedList.has_room_for_distinct.Goals.{then-not-has+then-not-has_key, else-not-has, else-not-has-via-then-not-has+else-not-has_key, else-not-has-via-else-not-has}

pub returns-then-count-limit : goal.returns-then-count-limit
returns-then-count-limit g c =
    let within = first_within g.T.Keyed.key_of c.args.self.now c.args.items.now c.loop-k.k in
    let over : c.args.limit < length (with_items g.T.Keyed.key_of c.args.self.now c.args.items.now) = omega (arith, c.loop-k.invariant) in
    over_limit c.args.limit _ over

pub loop-k-preserved : goal.loop-k-preserved
loop-k-preserved g c =
    let key_of = g.T.Keyed.key_of in
    let key = key_of c.index-items-k.result in
    let before = has_key key_of key (take c.loop-k.k c.args.items.now) in
    let size = length (with_items key_of c.args.self.now (take c.loop-k.k c.args.items.now)) in
    let step = counted key_of c.args.self.now c.args.items.now c.loop-k.k c.index-items-k.result (search rules) c.index-items-k.is in
    let there : c.has.result ≡ has_key key_of key c.args.self.now = search rules in
    elim c.if-not-has.branch [
      | then-not-has+then-not-has_key w ↦
          let met : w.has_key.result ≡ before = search rules in
          let new : (has_key key_of key c.args.self.now || before) ≡ false =
          ap (λ (b : Bool). b || before) (sym there ∙ w.if-not-has.true) ∙ sym met ∙ w.if-not-has_key.true in
          w.count-is ∙ ap (λ (n : ℕ). n + 1) c.loop-k.invariant ∙ ap (λ (b : Bool). cond b size (size + 1)) (sym new) ∙ sym step
      | else-not-has w ↦
          let old : (has_key key_of key c.args.self.now || before) ≡ true =
          elim w.else-not-has.branch [
            | else-not-has-via-then-not-has+else-not-has_key v ↦
                let met : v.has_key.result ≡ before = search rules in
                ap (λ (b : Bool). b || before) (sym there ∙ v.if-not-has.true) ∙ sym met ∙ v.if-not-has_key.false
            | else-not-has-via-else-not-has v ↦
                ap (λ (b : Bool). b || before) (sym there ∙ v.if-not-has.false)
          ] in
          w.count-is ∙ c.loop-k.invariant ∙ ap (λ (b : Bool). cond b size (size + 1)) (sym old) ∙ sym step
    ]
