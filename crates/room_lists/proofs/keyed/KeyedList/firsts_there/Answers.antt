use Rattle.std.proofs.Common.{◌≡◌, ◌∙◌, ◌+◌, ◌<◌, ◌++◌, ◌∷◌, [], ap, sym, rules, drop, length, map, get_or, set, true, false}
use Rattle.std.specs.Prelude.{ℕ, List, None, is_some}
use Rattle.std.proofs.lemmas.List.{map-append, length-set}
use Rattle.line_words.specs.Table.{is_among}
use Rattle.room_lists.specs.Keyed.{place_of}
use Rattle.room_lists.proofs.Picked.{is_there, picked, found_more, passed_other, passed_again, all_picked, all_there}
use Rattle.room_lists.proofs.Placed.{met_more, met_before}
use Rattle.room_lists.proofs.keyed.KeyedList.firsts_there.Goals as goal
use Rattle.room_lists.proofs.keyed.KeyedList.firsts_there.Goals.{in-Some+then-not-index+in_ok-push, in_default, in_default-via-in-None-1, in_default-via-in-Some+else-not-index}

pub loop-key-preserved : goal.loop-key-preserved
loop-key-preserved g c =
    let key_of = g.T.Keyed.key_of in
    let items = c.args.self.now in
    let test = is_there key_of items in
    let words = c.args.keys.now in
    let i = c.loop-key.key-index in
    let word = c.key-item.result in
    let keys = map (λ first. first.now) c.loop-key.firsts.items in
    let inside : i < length words = search rules in
    let is : word ≡ get_or words i word = c.key-item.is in
    let left = λ (found : List (List ℕ)). found ++ picked test found (drop (i + 1) words) in
    let met = c.loop-key.is_met.items in
    let held = c.loop-key.invariant.met in
    let places = c.loop-key.invariant.places in
    elim c.match-place_of.branch [
      | in-Some+then-not-index+in_ok-push w ↦
          let passes : test word ≡ true = sym (w.in-Some.ensures.there) in
          let within : w.in-Some.place < length items = w.in-Some.ensures.place.0 in
          let placed : w.in-Some.place ≡ place_of key_of word items = w.in-Some.ensures.place.1 in
          let new : is_among word keys ≡ false =
          sym (met_before key_of items met keys word held places w.in-Some.place within placed w.index.result.now w.index.ensures) ∙ w.if-not-index.true in
          let made : map (λ first. first.now) w.push.new.self.items ≡ keys ++ word ∷ [] =
          ap (map (λ first. first.now)) w.in_ok-push.ensures.items ∙ map-append (λ first. first.now) c.loop-key.firsts.items (_ ∷ []) in
          let after : map (λ first. first.now) c.match-place_of.firsts.items ≡ keys ++ word ∷ [] =
          (λ j. map (λ first. first.now) (w.firsts-is j).items) ∙ made in
          let marked : c.match-place_of.is_met.items ≡ set met w.in-Some.place true = λ j. (w.is_met-is j).items in
          record {
            found = ap left after ∙ found_more test keys words i word inside is passes new ∙ c.loop-key.invariant.found;
            met = λ other near.
                ap (λ ms. get_or ms (place_of key_of other items) false) marked
                ∙ met_more key_of items met keys word held places w.in-Some.place within placed other near ∙ sym (ap (is_among other) after);
            places = ap length marked ∙ length-set met w.in-Some.place true ∙ places;
          }
      | in_default w ↦
          let after : map (λ first. first.now) c.match-place_of.firsts.items ≡ keys = λ j. map (λ first. first.now) (w.firsts-is j).items in
          let marked : c.match-place_of.is_met.items ≡ met = λ j. (w.is_met-is j).items in
          let still = λ (other : List ℕ) (near : place_of key_of other items < length items).
          ap (λ ms. get_or ms (place_of key_of other items) false) marked ∙ held other near ∙ sym (ap (is_among other) after) in
          let same_places = ap length marked ∙ places in
          elim w.in_default.branch [
            | in_default-via-in-None-1 v ↦
                let none : c.place_of.result ≡ None = search rules in
                let fails : test word ≡ false = sym (c.place_of.ensures.there) ∙ ap is_some none in
                record {
                  found = ap left after ∙ passed_other test keys words i word inside is fails ∙ c.loop-key.invariant.found;
                  met = still;
                  places = same_places;
                }
            | in_default-via-in-Some+else-not-index v ↦
                let within : v.in-Some.place < length items = v.in-Some.ensures.place.0 in
                let placed : v.in-Some.place ≡ place_of key_of word items = v.in-Some.ensures.place.1 in
                let old : is_among word keys ≡ true =
                sym (met_before key_of items met keys word held places v.in-Some.place within placed v.index.result.now v.index.ensures) ∙ v.if-not-index.false in
                record {
                  found = ap left after ∙ passed_again test keys words i word inside is old ∙ c.loop-key.invariant.found;
                  met = still;
                  places = same_places;
                }
          ]
    ]

pub returns : goal.returns
returns g c =
    all_picked (is_there g.T.Keyed.key_of c.args.self.now) _ c.args.keys.now c.loop-key.key-index (search rules) c.loop-key.invariant.found
    ∙ all_there g.T.Keyed.key_of c.args.self.now c.args.keys.now
