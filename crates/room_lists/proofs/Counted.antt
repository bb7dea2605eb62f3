-- How many items there are once others are put among them, each in the place of the one of its key.
use Rattle.std.proofs.Common.{◌≡◌, ◌<◌, ◌≤◌, ◌+◌, ℕ, suc, List, [], ◌∷◌, ◌++◌, refl, sym, ap, ◌∙◌, Bool, true, false, cond, not, length, take, drop, arith, get_or}
use Rattle.std.specs.Prelude.{◌||◌, if◌then◌else◌, nat_lt}
use Rattle.std.proofs.lemmas.Bool.Decides.{nat_tests}
use Rattle.std.proofs.lemmas.List.{take_more, take-append-drop}
use Rattle.line_words.specs.Table.{same_name}
use Rattle.line_words.proofs.Tables.{same_name_is}
use Rattle.room_lists.specs.Keyed.{has_key, with_item, with_items}
use Rattle.room_lists.proofs.Entries.{with_both}
use Rattle.room_lists.proofs.Tests.{or_again}
use Rattle.std.proofs.Math.Bool.{or-false, or_assoc}

step_grows : (n m : ℕ) (b : Bool) → m ≡ cond b n (n + 1) → n ≤ m
step_grows n m true e = omega arith
step_grows n m false e = omega arith

module _ {T : Type 0} (key_of : T → List ℕ) where
  pub has_with : (key : List ℕ) (items : List T) (item : T)
      → has_key key_of key (with_item key_of items item) ≡ (has_key key_of key items || same_name key (key_of item))
  has_with key [] item = or-false (same_name key (key_of item))
  has_with key (t ∷ items) item =
      let there = has_key key_of key items in
      elim (same_name (key_of item) (key_of t)) as (λ b. same_name (key_of item) (key_of t) ≡ b
      → has_key key_of key (if b then item ∷ items else t ∷ with_item key_of items item) ≡ ((same_name key (key_of t) || there) || same_name key (key_of item))) [
        | true ↦ λ e. or_again (same_name key (key_of item)) there ∙ ap (λ k. (same_name key k || there) || same_name key (key_of item)) (same_name_is (key_of item) (key_of t) e)
        | false ↦ λ e. ap (λ b. same_name key (key_of t) || b) (has_with key items item) ∙ sym (or_assoc (same_name key (key_of t)) there (same_name key (key_of item)))
      ] refl

  length_with : (items : List T) (item : T) → length (with_item key_of items item) ≡ cond (has_key key_of (key_of item) items) (length items) (length items + 1)
  length_with [] item = refl
  length_with (t ∷ items) item =
      let there = has_key key_of (key_of item) items in
      elim (same_name (key_of item) (key_of t)) as (λ b. length (if b then item ∷ items else t ∷ with_item key_of items item)
      ≡ cond (b || there) (suc (length items)) (suc (length items) + 1)) [
        | true ↦ refl
        | false ↦ ap suc (length_with items item)
            ∙ elim there as (λ h. suc (cond h (length items) (length items + 1)) ≡ cond h (suc (length items)) (suc (length items) + 1)) [ true ↦ refl | false ↦ omega arith ]
      ]

  pub has_all : (key : List ℕ) (items ps : List T) → has_key key_of key (with_items key_of items ps) ≡ (has_key key_of key items || has_key key_of key ps)
  has_all key items [] = sym (or-false (has_key key_of key items))
  has_all key items (p ∷ ps) =
      has_all key (with_item key_of items p) ps ∙ ap (λ b. b || has_key key_of key ps) (has_with key items p)
      ∙ or_assoc (has_key key_of key items) (same_name key (key_of p)) (has_key key_of key ps)

  grows : (items ps : List T) → length items ≤ length (with_items key_of items ps)
  grows items [] = let same : length (with_items key_of items []) ≡ length items = refl in omega arith
  grows items (p ∷ ps) =
      let first : length items ≤ length (with_item key_of items p) = step_grows _ _ (has_key key_of (key_of p) items) (length_with items p) in
      let rest = grows (with_item key_of items p) ps in omega arith

  -- the first k of some items, and all of them
  pub first_within : (items ps : List T) (k : ℕ) → length (with_items key_of items (take k ps)) ≤ length (with_items key_of items ps)
  first_within items ps k =
      let whole : length (with_items key_of items ps) ≡ length (with_items key_of (with_items key_of items (take k ps)) (drop k ps)) =
      ap (λ qs. length (with_items key_of items qs)) (sym (take-append-drop k ps)) ∙ ap length (with_both key_of items (take k ps) (drop k ps)) in
      let more = grows (with_items key_of items (take k ps)) (drop k ps) in omega arith

  module _ (items ps : List T) (k : ℕ) (p : T) (inside : k < length ps) (is : p ≡ get_or ps k p) where
    pub counted : length (with_items key_of items (take (k + 1) ps))
        ≡ cond (has_key key_of (key_of p) items || has_key key_of (key_of p) (take k ps))
        (length (with_items key_of items (take k ps))) (length (with_items key_of items (take k ps)) + 1)
    counted =
        let before = with_items key_of items (take k ps) in
        ap (λ qs. length (with_items key_of items qs)) (take_more ps k p inside ∙ ap (λ q. take k ps ++ q ∷ []) (sym is))
        ∙ ap length (with_both key_of items (take k ps) (p ∷ [])) ∙ length_with before p
        ∙ ap (λ b. cond b (length before) (length before + 1)) (has_all (key_of p) items (take k ps))

    -- where each item whose key is not there yet counts
    module _ (n : ℕ) (within : length (with_items key_of items (take k ps)) ≤ n) where
      at_most_more : (b : Bool) (m : ℕ) → m ≡ cond b (length (with_items key_of items (take k ps))) (length (with_items key_of items (take k ps)) + 1) → m ≤ n + 1
      at_most_more true m e = omega arith
      at_most_more false m e = omega arith

      pub within_more : length (with_items key_of items (take (k + 1) ps)) ≤ n + 1
      within_more = at_most_more (has_key key_of (key_of p) items || has_key key_of (key_of p) (take k ps)) _ counted

      pub within_same : has_key key_of (key_of p) items ≡ true → length (with_items key_of items (take (k + 1) ps)) ≤ n
      within_same there =
          let size = length (with_items key_of items (take k ps)) in
          let same : length (with_items key_of items (take (k + 1) ps)) ≡ size =
          counted ∙ ap (λ b. cond (b || has_key key_of (key_of p) (take k ps)) size (size + 1)) there in
          omega arith

pub over_limit : (limit n : ℕ) → limit < n → false ≡ not (nat_lt limit n)
over_limit limit n h = grind (arith, nat_tests)
