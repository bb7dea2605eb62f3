use Rattle.std.proofs.Common.{ℤ, w64, nat_eq, ◌∙◌, ap, sym, subst, refl}
use Rattle.std.specs.Prelude.{ℕ, List, map, if◌then◌else◌}
use Rattle.std.specs.List.{IsDistinct}
use Rattle.std.specs.Cmp.Lexicographic.{pointwise}
use Rattle.std.specs.Map.{keys_of, values_of, set_value}
use Rattle.std.proofs.lemmas.Map.{keys-set_value}
use Rattle.std.proofs.lemmas.Int.{to_z-of_z}
use Rattle.line_words.specs.Table.{same_name}
use Rattle.line_words.proofs.Keyed.{stands_for}
use Rattle.line_words.proofs.Ties.{none_of}
use Rattle.room_lists.specs.Room as room
use Rattle.room_lists.specs.Index.{IsIndex}
use Rattle.room_lists.proofs.Indexed.{index_written, values_written, values_unwritten}
use Rattle.battle_room.proofs.members.Members.put_status.Goals as goal
use Rattle.battle_room.proofs.members.Members.put_status.Goals.{in-Some, in_default}

pub invariant_of-self : goal.invariant_of-self
invariant_of-self g c =
    let change = room.member_with c.args.status c.args.colour in
    let test = stands_for (λ (name : List ℕ). name) c.args.name.now in
    let old = c.self.inside.by_name.entries in
    elim c.match-get_mut.branch [
      | in-Some w ↦ rw w.self-inside-is (
          let written = (c.get_mut.follows.holds w.put_status.new.self).0 ∙ ap (set_value test old) (w.put_status.ensures ∙ ap (λ (z : ℤ). room.member_with c.args.status z w.in-Some.member.now) (to_z-of_z w64 c.args.colour c.ranges.colour)) in (
            subst (IsIndex (λ (name : List ℕ). name) (λ (m : room.Member). m.name)) (sym written)
                (index_written (λ (name : List ℕ). name) (λ (m : room.Member). m.name) c.args.name.now change (λ m. refl) w.in-Some.member.now old c.self.invariant.0 w.in-Some.ensures.value),
            subst (IsDistinct (pointwise nat_eq)) (sym (ap keys_of written ∙ keys-set_value test old _)) c.self.invariant.1,
          ))
      | in_default w ↦ rw w.self-inside-is (
        subst (IsIndex (λ (name : List ℕ). name) (λ (m : room.Member). m.name)) (sym (λ i. (c.get_mut.follows.holds-at-none i).entries)) c.self.invariant.0,
        subst (λ (es : List (List ℕ × room.Member)). IsDistinct (pointwise nat_eq) (keys_of es)) (sym (λ i. (c.get_mut.follows.holds-at-none i).entries)) c.self.invariant.1,
      )
    ]

pub returns : goal.returns
returns g c =
    let change = room.member_with c.args.status c.args.colour in
    let test = stands_for (λ (name : List ℕ). name) c.args.name.now in
    let old = c.self.inside.by_name.entries in
    let all = λ (ms : List room.Member). map (λ m. if same_name c.args.name.now m.name then change m else m) ms in
    elim c.match-get_mut.branch [
      | in-Some w ↦ rw w.self-inside-is (
          ap values_of ((c.get_mut.follows.holds w.put_status.new.self).0 ∙ ap (set_value test old) (w.put_status.ensures ∙ ap (λ (z : ℤ). room.member_with c.args.status z w.in-Some.member.now) (to_z-of_z w64 c.args.colour c.ranges.colour)))
          ∙ values_written (λ (name : List ℕ). name) (λ (m : room.Member). m.name) c.args.name.now change w.in-Some.member.now old c.self.invariant.0 c.get_mut.ensures.unique w.in-Some.ensures.value
          ∙ ap all c.self.view_is)
      | in_default w ↦ rw w.self-inside-is (
          ap values_of (λ i. (c.get_mut.follows.holds-at-none i).entries)
          ∙ values_unwritten (λ (name : List ℕ). name) (λ (m : room.Member). m.name) c.args.name.now change old c.self.invariant.0
          (none_of c.get_mut.result w.in_default.not-Some ∙ c.get_mut.ensures.value)
          ∙ ap all c.self.view_is)
    ]
