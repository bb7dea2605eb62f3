use Rattle.std.proofs.Common.{◌≡◌, ◌<◌, ◌+◌, ◌∙◌, sym, ap, length, refl, arith, rules, not, is_some, take, cond, true, false}
use Rattle.std.specs.Prelude.{ℕ, List, Bool, ◌||◌}
use Rattle.std.proofs.lemmas.List.{length-map}
use Rattle.std.proofs.Math.Bool.{or-true}
use Rattle.room_lists.specs.Keyed.{has_key, with_items}
use Rattle.room_lists.proofs.Counted.{counted, first_within, over_limit}
use Rattle.room_lists.proofs.Room.{over_all}
use Rattle.room_lists.proofs.Last.{was_there, put_last}
use Rattle.room_lists.proofs.keyed.KeyedList.last_items.Goals as goal
use Rattle.room_lists.proofs.keyed.KeyedList.last_items.Goals.{then-is_none+then-not-has+else-new-most, else-is_none, else-is_none-via-then-is_none+else-not-has, else-is_none-via-else-is_none}

pub returns-in_default-clause-room : goal.returns-in_default-clause-room
returns-in_default-clause-room g c =
    let count : c.len.result ≡ length c.args.self.now =
    c.len.ensures.len ∙ sym (length-map c.self.inside.by_key.entries (λ e. g.T.Keyed.whole e.0 e.1)) ∙ ap length c.self.view_is in
    let over = c.in_default.ensures in
    over_all g.T.Keyed.key_of c.args.self.now c.args.items.now c.args.limit (omega (arith, count, over))

pub returns-then-new-most-clause-room : goal.returns-then-new-most-clause-room
returns-then-new-most-clause-room g c =
    let key_of = g.T.Keyed.key_of in
    let items = c.args.items.now in
    let i = c.loop-item.item-index in
    let item = c.item-item.result in
    let inside : i < length items = search rules in
    let size = length (with_items key_of c.args.self.now (take i items)) in
    let own = has_key key_of (key_of item) c.args.self.now in
    let before = has_key key_of (key_of item) (take i items) in
    let was : is_some c.in_ok-insert.field-0 ≡ before = ap is_some c.in_ok-insert.ensures.old
    ∙ was_there key_of c.loop-item.last.entries items i item c.key-key.result inside c.item-item.is c.key-key.ensures c.loop-item.invariant.keys c.loop-item.invariant.last in
    let fresh : before ≡ false = sym was ∙ c.is_none.ensures ∙ ap not c.if-is_none.true in
    let other : own ≡ false =
    sym (c.has.ensures ∙ ap (λ (k : List ℕ). has_key key_of k c.args.self.now) c.key-key.ensures) ∙ c.if-not-has.true in
    let more : length (with_items key_of c.args.self.now (take (i + 1) items)) ≡ size + 1 =
    counted key_of c.args.self.now items i item inside c.item-item.is
    ∙ ap (λ (b : Bool). cond b size (size + 1)) (ap (λ (b : Bool). b || before) other ∙ fresh) in
    let past = first_within key_of c.args.self.now items (i + 1) in
    let count : c.len.result ≡ length c.args.self.now =
    c.len.ensures.len ∙ sym (length-map c.self.inside.by_key.entries (λ e. g.T.Keyed.whole e.0 e.1)) ∙ ap length c.self.view_is in
    let within = c.in-Some.ensures.0 in
    let left = c.in-Some.ensures.1 in
    let full = c.if-new-most.true in
    let sum = c.loop-item.invariant.count in
    let over : c.args.limit < length (with_items key_of c.args.self.now items) = omega (arith, more, past, count, within, left, full, sum) in
    over_limit c.args.limit _ over

pub loop-item-preserved : goal.loop-item-preserved
loop-item-preserved g c =
    let key_of = g.T.Keyed.key_of in
    let items = c.args.items.now in
    let i = c.loop-item.item-index in
    let item = c.item-item.result in
    let inside : i < length items = search rules in
    let put = put_last key_of c.loop-item.last.entries items i item c.key-key.result inside c.item-item.is c.key-key.ensures c.loop-item.invariant.keys c.loop-item.invariant.last
    c.insert.new.self.entries _ refl c.in_ok-insert.ensures.entries in
    let size = length (with_items key_of c.args.self.now (take i items)) in
    let own = has_key key_of (key_of item) c.args.self.now in
    let before = has_key key_of (key_of item) (take i items) in
    let was : is_some c.in_ok-insert.field-0 ≡ before = ap is_some c.in_ok-insert.ensures.old
    ∙ was_there key_of c.loop-item.last.entries items i item c.key-key.result inside c.item-item.is c.key-key.ensures c.loop-item.invariant.keys c.loop-item.invariant.last in
    let step = counted key_of c.args.self.now items i item inside c.item-item.is in
    let sum = c.loop-item.invariant.count in
    let fits = c.loop-item.invariant.few in
    elim c.if-is_none.branch [
      | then-is_none+then-not-has+else-new-most w ↦
          let fresh : before ≡ false = sym was ∙ c.is_none.ensures ∙ ap not w.if-is_none.true in
          let other : own ≡ false =
          sym (w.has.ensures ∙ ap (λ (k : List ℕ). has_key key_of k c.args.self.now) c.key-key.ensures) ∙ w.if-not-has.true in
          let more : length (with_items key_of c.args.self.now (take (i + 1) items)) ≡ size + 1 =
          step ∙ ap (λ (b : Bool). cond b size (size + 1)) (ap (λ (b : Bool). b || before) other ∙ fresh) in
          let next = w.new-is in
          let room = w.if-new-most.false in
          record { keys = put.0; last = put.1; count = omega (arith, more, sum, next); few = omega (arith, next, room) }
      | else-is_none w ↦
          let old : (own || before) ≡ true =
          elim w.else-is_none.branch [
            | else-is_none-via-then-is_none+else-not-has v ↦
                ap (λ (b : Bool). b || before)
                (sym (v.has.ensures ∙ ap (λ (k : List ℕ). has_key key_of k c.args.self.now) c.key-key.ensures) ∙ v.if-not-has.false)
            | else-is_none-via-else-is_none v ↦
                ap (λ (b : Bool). own || b) (sym was ∙ c.is_none.ensures ∙ ap not v.if-is_none.false) ∙ or-true own
          ] in
          let same : length (with_items key_of c.args.self.now (take (i + 1) items)) ≡ size = step ∙ ap (λ (b : Bool). cond b size (size + 1)) old in
          let next = w.new-is in
          record { keys = put.0; last = put.1; count = omega (arith, same, sum, next); few = omega (arith, next, fits) }
    ]
