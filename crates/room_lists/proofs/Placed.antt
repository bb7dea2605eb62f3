-- Where the items of keys stand, and which keys were met.
use Rattle.std.proofs.Common.{◌≡◌, ◌<◌, ◌+◌, ℕ, suc, List, [], ◌∷◌, ◌++◌, refl, sym, ap, subst, ◌∙◌, Bool, true, false, cond, not, length, get_or, set, arith}
use Rattle.std.specs.Prelude.{◌||◌, Option, Some, None, IfSome}
use Rattle.std.proofs.lemmas.Option.{same_Some}
use Rattle.std.proofs.lemmas.List.{get_or-set_other, get_or_default}
use Rattle.std.proofs.lemmas.Grind.{get_or-set_at}
use Rattle.std.proofs.Math.Bool.{or-false, or-true}
use Rattle.line_words.specs.Table.{same_name, is_among}
use Rattle.line_words.proofs.Tables.{same_name_is}
use Rattle.line_words.proofs.Once.{same_name_equiv}
use Rattle.room_lists.specs.Keyed.{place_of}
use Rattle.room_lists.proofs.Picked.{among_more}

pub place_in : (found : Option ℕ) (b : Bool) (place count : ℕ) → found ≡ cond b (Some place) None → IfSome found (λ i. i < count)
    → IfSome found (λ i. (i < count) × (i ≡ place))
place_in None b place count is within = tt
place_in (Some i) true place count is within = (within, same_Some i place is)
place_in (Some i) false place count is within = absurd (cc)

module _ {T : Type 0} (key_of : T → List ℕ) where
  -- one place is one key's
  pub same_place : (items : List T) (key other : List ℕ) → place_of key_of key items < length items
      → place_of key_of key items ≡ place_of key_of other items → key ≡ other
  same_place [] key other inside same = absurd (omega (arith, inside))
  same_place (t ∷ items) key other inside same =
      elim (same_name key (key_of t)) as (λ a. same_name key (key_of t) ≡ a → cond (not a) (1 + place_of key_of key items) 0 < suc (length items)
      → cond (not a) (1 + place_of key_of key items) 0 ≡ place_of key_of other (t ∷ items) → key ≡ other) [
        | true ↦ λ is within first. elim (same_name other (key_of t)) as (λ b. same_name other (key_of t) ≡ b
            → 0 ≡ cond (not b) (1 + place_of key_of other items) 0 → key ≡ other) [
              | true ↦ λ also both. same_name_is key (key_of t) is ∙ sym (same_name_is other (key_of t) also)
              | false ↦ λ apart never. absurd (omega (arith, never))
            ] refl first
        | false ↦ λ apart within later. elim (same_name other (key_of t)) as (λ b. same_name other (key_of t) ≡ b
            → 1 + place_of key_of key items ≡ cond (not b) (1 + place_of key_of other items) 0 → key ≡ other) [
              | true ↦ λ is never. absurd (omega (arith, never))
              | false ↦ λ also both. same_place items key other (omega (arith, within)) (omega (arith, both))
            ] refl later
      ] refl inside same

  -- which items were met, where a key stands at its place
  module _ (items : List T) (met : List Bool) (found : List (List ℕ)) (word : List ℕ)
      (held : (other : List ℕ) → place_of key_of other items < length items → get_or met (place_of key_of other items) false ≡ is_among other found)
      (places : length met ≡ length items) (place : ℕ) (within : place < length items) (placed : place ≡ place_of key_of word items) where
    near : place_of key_of word items < length items
    near = subst (λ n. n < length items) placed within

    pub met_before : (mark : Bool) → mark ≡ get_or met place mark → mark ≡ is_among word found
    met_before mark is = is ∙ get_or_default met place mark false (omega (arith, within, places))
        ∙ ap (λ n. get_or met n false) placed ∙ held word near

    pub met_more : (other : List ℕ) → place_of key_of other items < length items
        → get_or (set met place true) (place_of key_of other items) false ≡ is_among other (found ++ word ∷ [])
    met_more other there =
        elim (same_name other word) as (λ b. same_name other word ≡ b
        → get_or (set met place true) (place_of key_of other items) false ≡ is_among other (found ++ word ∷ [])) [
          | true ↦ λ same.
              get_or-set_at met place (place_of key_of other items) true false
              (ap (λ k. place_of key_of k items) (same_name_is other word same) ∙ sym placed) (omega (arith, within, places))
              ∙ sym (among_more other found word ∙ ap (λ b. is_among other found || b) same ∙ or-true (is_among other found))
          | false ↦ λ apart.
              get_or-set_other met place (place_of key_of other items) true false
              (λ one. let never : true ≡ false = sym (same_name_equiv.refl other)
              ∙ ap (same_name other) (same_place items other word there (one ∙ placed)) ∙ apart in absurd (cc))
              ∙ held other there ∙ sym (among_more other found word ∙ ap (λ b. is_among other found || b) apart ∙ or-false (is_among other found))
        ] refl
