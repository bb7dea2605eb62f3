use Rattle.std.proofs.lemmas.Grind.{common_steps}
use Rattle.std.proofs.Common.{◌≡◌, ◌≤◌, ◌-◌, ◌++◌, ◌∷◌, [], ◌∙◌, length, take, drop, ap, subst, rules, arith}
use Rattle.std.specs.Prelude.{IfSome}
use Rattle.lobby_post.specs.declared.delivery.Delivery.{Delivery}
use Rattle.lobby_post.specs.Dues.{with_share}
use Rattle.lobby_post.proofs.Lines.{inside_and, shares_more, whole_part}
use Rattle.lobby_post.proofs.post.Post.address_key.Goals as goal
use Rattle.lobby_post.proofs.post.Post.address_key.Goals.{then-key-self, else-key-self, then-from-self+in_ok-add_share_of_line, else-from-self+in_ok-add_share}

pub invariant_of-self-2 : goal.invariant_of-self-2
invariant_of-self-2 c =
    let i = c.self.inside in
    let text = i.text.items in
    let p : Delivery = record { key = c.args.key; from = c.if-key-self.from; to = c.len-to.result } in
    let ends : c.len-to.result ≡ length text = search rules in
    let starts : p.from ≤ length text = elim c.if-key-self.branch [
      | then-key-self w ↦ rw w.from-is c.self.invariant.1
      | else-key-self w ↦ rw w.from-is c.self.invariant.2
    ] in
    let inside = inside_and text i.pieces.items p c.self.invariant.0 (omega (arith, starts, ends), omega (arith, ends)) in
    elim c.if-from-self.branch [
      | then-from-self+in_ok-add_share_of_line w ↦
          let whole : take (p.to - p.from) (drop p.from c.deref.result.now) ≡ drop i.shared text =
          whole_part text _ _ _ _ c.deref.ensures.value ends (search rules) in
          let items : c.push_reserved.new.self.items ≡ i.pieces.items ++ p ∷ [] = search rules in
          rw (w.self-inside-is, items) (
            inside,
            c.self.invariant.1,
            c.self.invariant.2,
            shares_more text i.pieces.items p i.shares.items _ c.self.invariant.3 (w.in_ok-add_share_of_line.ensures.ok
                ∙ ap (λ t. i.shares.items ++ with_share (take (p.to - p.from) (drop p.from t)) []) c.deref.ensures.value),
            subst (λ bs. IfSome w.add_share_of_line.new.line (λ line. line ≡ bs)) whole w.in_ok-add_share_of_line.ensures.line,
          )
      | else-from-self+in_ok-add_share w ↦
          let items : c.push_reserved.new.self.items ≡ i.pieces.items ++ p ∷ [] = search rules in
          rw (w.self-inside-is, items) (
            inside,
            c.self.invariant.1,
            c.self.invariant.2,
            shares_more text i.pieces.items p i.shares.items _ c.self.invariant.3 (w.in_ok-add_share.ensures.ok
                ∙ ap (λ t. i.shares.items ++ with_share (take (p.to - p.from) (drop p.from t)) []) c.deref.ensures.value),
            c.self.invariant.4,
          )
    ]

pub invariant_of-self : goal.invariant_of-self
invariant_of-self c = grind (arith, common_steps)

pub returns-in_err-reserve : goal.returns-in_err-reserve
returns-in_err-reserve c = grind (arith, common_steps)

pub slice_bounds-bytes-count : goal.slice_bounds-bytes-count
slice_bounds-bytes-count c = grind (arith, common_steps)

pub slice_bounds-bytes-start : goal.slice_bounds-bytes-start
slice_bounds-bytes-start c = grind (arith, common_steps)

pub slice_bounds-bytes-end : goal.slice_bounds-bytes-end
slice_bounds-bytes-end c = grind (arith, common_steps)

pub invariant_of-self-in_err-add_share_of_line : goal.invariant_of-self-in_err-add_share_of_line
invariant_of-self-in_err-add_share_of_line c = grind (arith, common_steps)

pub returns-in_err-add_share_of_line : goal.returns-in_err-add_share_of_line
returns-in_err-add_share_of_line c = grind (arith, common_steps)

pub invariant_of-self-in_err-add_share : goal.invariant_of-self-in_err-add_share
invariant_of-self-in_err-add_share c = grind (arith, common_steps)

pub returns-in_err-add_share : goal.returns-in_err-add_share
returns-in_err-add_share c = grind (arith, common_steps)

pub returns : goal.returns
returns c = grind (arith, common_steps)
