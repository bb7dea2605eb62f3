use Rattle.std.proofs.Common.{◌≡◌, ◌∙◌, ◌+◌, ◌<◌, ◌≤◌, ◌++◌, ◌∷◌, [], ap, sym, rules, drop, length, map, arith, get_or, true, false, not}
use Rattle.std.specs.Prelude.{ℕ, List}
use Rattle.std.proofs.lemmas.List.{length-map, length-append, map-append, get_or-map}
use Rattle.line_words.specs.Table.{is_among}
use Rattle.room_lists.specs.Keyed.{has_key}
use Rattle.room_lists.proofs.Picked.{is_missing, picked, found_more, more_found, passed_other, all_picked, all_missing}
use Rattle.room_lists.proofs.Seen.{words_of, not_seen, seen_before, is_new, seen_new, seen_other, seen_again, passes_over}
use Rattle.room_lists.proofs.keyed.KeyedList.firsts_new.Goals as goal
use Rattle.room_lists.proofs.keyed.KeyedList.firsts_new.Goals.{then-branch+then-not-has+else-len-most+in_ok-push, else-branch, else-branch-via-then-branch+else-not-has, else-branch-via-else-branch}

pub loop-item-preserved : goal.loop-item-preserved
loop-item-preserved g c =
    let key_of = g.T.Keyed.key_of in
    let test = is_missing key_of c.args.self.now in
    let words = map key_of c.args.items.now in
    let i = c.loop-item.item-index in
    let word = key_of c.item-item.result in
    let keys = map (λ first. key_of first.now) c.loop-item.firsts.items in
    let here : i < length c.args.items.now = search rules in
    let same_length = length-map c.args.items.now key_of in
    let inside : i < length words = omega (arith, here, same_length) in
    let is : word ≡ get_or words i word = ap key_of c.item-item.is ∙ sym (get_or-map key_of c.args.items.now i c.item-item.result word here) in
    let left = λ (found : List (List ℕ)). found ++ picked test found (drop (i + 1) words) in
    let put = λ (other : List ℕ). ap (λ ks. is_among other (words_of ks)) c.in_ok-insert.ensures.keys in
    let seen = c.loop-item.seen.keys in
    let key = c.key-key.result in
    let same = c.key-key.ensures in
    let held = c.loop-item.invariant.seen in
    elim c.if-branch.branch [
      | then-branch+then-not-has+else-len-most+in_ok-push w ↦
          let there : w.has.result ≡ has_key key_of word c.args.self.now =
          w.has.ensures ∙ ap (λ (k : List ℕ). has_key key_of k c.args.self.now) c.key-key.ensures in
          let passes : test word ≡ true = ap not (sym there ∙ w.if-not-has.true) in
          let new = is_new test seen keys key word same held (not_seen _ _ c.in_ok-insert.ensures.added w.if-branch.true) passes in
          let made : map (λ first. key_of first.now) w.push.new.self.items ≡ keys ++ word ∷ [] =
          ap (map (λ first. key_of first.now)) w.in_ok-push.ensures.items ∙ map-append (λ first. key_of first.now) c.loop-item.firsts.items (_ ∷ []) in
          let after : map (λ first. key_of first.now) c.if-branch.firsts.items ≡ keys ++ word ∷ [] =
          (λ j. map (λ first. key_of first.now) (w.firsts-is j).items) ∙ made in
          let counted = ap length after in
          let one = length-append keys (word ∷ []) in
          let firsts = length-map c.loop-item.firsts.items (λ first. key_of first.now) in
          record {
            found = ap left after ∙ found_more test keys words i word inside is passes new ∙ c.loop-item.invariant.found;
            seen = λ other ok. put other ∙ seen_new test seen keys key word same held other ok ∙ sym (ap (is_among other) after);
            few = omega (arith, counted, one, firsts, w.if-len-most.false, w.len-then-not-has.ensures);
          }
      | else-branch w ↦
          let after : map (λ first. key_of first.now) c.if-branch.firsts.items ≡ keys = λ j. map (λ first. key_of first.now) (w.firsts-is j).items in
          let counted = ap length after in
          let few : length (map (λ first. key_of first.now) c.if-branch.firsts.items) ≤ c.args.most = omega (arith, counted, c.loop-item.invariant.few) in
          elim w.else-branch.branch [
            | else-branch-via-then-branch+else-not-has v ↦
                let there : v.has.result ≡ has_key key_of word c.args.self.now =
                v.has.ensures ∙ ap (λ (k : List ℕ). has_key key_of k c.args.self.now) c.key-key.ensures in
                let fails : test word ≡ false = ap not (sym there ∙ v.if-not-has.false) in
                record {
                  found = ap left after ∙ passed_other test keys words i word inside is fails ∙ c.loop-item.invariant.found;
                  seen = λ other ok. put other ∙ seen_other test seen keys key word same held fails other ok ∙ sym (ap (is_among other) after);
                  few = few;
                }
            | else-branch-via-else-branch v ↦
                let old = seen_before _ _ c.in_ok-insert.ensures.added v.if-branch.false in
                record {
                  found = ap left after ∙ passes_over test seen keys key word same held old words i inside is ∙ c.loop-item.invariant.found;
                  seen = λ other ok. put other ∙ seen_again test seen keys key word same held old other ok ∙ sym (ap (is_among other) after);
                  few = few;
                }
          ]
    ]

pub returns-then-len-most : goal.returns-then-len-most
returns-then-len-most g c =
    let key_of = g.T.Keyed.key_of in
    let test = is_missing key_of c.args.self.now in
    let words = map key_of c.args.items.now in
    let i = c.loop-item.item-index in
    let word = key_of c.item-item.result in
    let keys = map (λ first. key_of first.now) c.loop-item.firsts.items in
    let here : i < length c.args.items.now = search rules in
    let same_length = length-map c.args.items.now key_of in
    let inside : i < length words = omega (arith, here, same_length) in
    let is : word ≡ get_or words i word = ap key_of c.item-item.is ∙ sym (get_or-map key_of c.args.items.now i c.item-item.result word here) in
    let there : c.has.result ≡ has_key key_of word c.args.self.now =
    c.has.ensures ∙ ap (λ (k : List ℕ). has_key key_of k c.args.self.now) c.key-key.ensures in
    let passes : test word ≡ true = ap not (sym there ∙ c.if-not-has.true) in
    let new = is_new test c.loop-item.seen.keys keys c.key-key.result word c.key-key.ensures c.loop-item.invariant.seen
    (not_seen _ _ c.in_ok-insert.ensures.added c.if-branch.true) passes in
    let more = more_found test keys words i word inside is passes new c.loop-item.invariant.found in
    let all = ap length (all_missing key_of c.args.self.now words) in
    let firsts = length-map c.loop-item.firsts.items (λ first. key_of first.now) in
    omega (arith, more, all, firsts, c.if-len-most.true, c.len.ensures)

pub returns : goal.returns
returns g c =
    let words = map g.T.Keyed.key_of c.args.items.now in
    let same_length = length-map c.args.items.now g.T.Keyed.key_of in
    let past : length words ≤ c.loop-item.item-index = omega (arith, same_length, c.loop-item-test.false) in
    let all = all_picked (is_missing g.T.Keyed.key_of c.args.self.now) _ words c.loop-item.item-index past c.loop-item.invariant.found
    ∙ all_missing g.T.Keyed.key_of c.args.self.now words in
    let counted = ap length all in
    (all, omega (arith, counted, c.loop-item.invariant.few))
