-- Names that differ, and names that are added to a list or taken out of it.
use Rattle.std.proofs.Math.Bool.{or-false}
use Rattle.std.proofs.Common.{◌≡◌, ℕ, List, [], ◌∷◌, ◌++◌, refl, sym, ap, ◌∙◌, Bool, true, false, not}
use Rattle.std.specs.Prelude.{◌||◌, if◌then◌else◌, map, filter}
use Rattle.std.specs.List.{IsDistinct, list_any}
use Rattle.std.proofs.lemmas.List.Folds.{list_any-append}
use Rattle.std.proofs.lemmas.Map.Views.{any-filter_same}
use Rattle.line_words.specs.Table.{same_name, is_among, all_but}
use Rattle.line_words.proofs.Tables.{same_name_is, same_name_itself}
use Rattle.line_words.proofs.Once.{Apart, apart_either_way, contradiction, any_of_filter}
use Rattle.std.proofs.lemmas.Bool.{or_parts}

apart_is : (name : List ℕ) (names : List (List ℕ)) → Apart name names → is_among name names ≡ false
apart_is name [] h = refl
apart_is name (n ∷ names) h = ap (λ b. b || is_among name names) h.0 ∙ apart_is name names h.1

-- of names that differ, the first is not among the others, and these differ
pub first_apart : (name : List ℕ) (names : List (List ℕ)) → IsDistinct same_name (name ∷ names)
    → (is_among name names ≡ false) × IsDistinct same_name names
unfolding IsDistinct
first_apart name names h = (apart_is name names h.0, h.1)

-- one of another name than me stays where I am taken out
pub stays : (me u : List ℕ) → same_name u me ≡ false → (names : List (List ℕ)) → is_among u (all_but me names) ≡ is_among u names
stays me u apart names =
    any-filter_same (same_name u) (λ n. not (same_name me n)) true
    (λ n is. ap not (ap (same_name me) (sym (same_name_is u n is)) ∙ apart_either_way u me apart)) names

-- I at the end make no difference to it
pub at_end_apart : (u me : List ℕ) → same_name u me ≡ false → (names : List (List ℕ)) → is_among u (names ++ me ∷ []) ≡ is_among u names
at_end_apart u me apart names =
    list_any-append (same_name u) names (me ∷ []) ∙ ap (λ b. is_among u names || (b || false)) apart ∙ or-false (is_among u names)

pub is_at_end : (me : List ℕ) (names : List (List ℕ)) → is_among me (names ++ me ∷ []) ≡ true
is_at_end me names =
    list_any-append (same_name me) names (me ∷ []) ∙ ap (λ b. is_among me names || (b || false)) (same_name_itself me) ∙ or_all (is_among me names)
  where
    or_all : (b : Bool) → (b || true) ≡ true
    or_all true = refl
    or_all false = refl

module _ {X : Type 0} (p : X → Bool) where
  -- where nothing passes a test, to drop all that passes drops nothing
  pub none_dropped : (xs : List X) → list_any p xs ≡ false → filter (λ x. not (p x)) xs ≡ xs
  none_dropped [] none = refl
  none_dropped (x ∷ xs) none =
      let parts = or_parts _ _ none in
      let rest = filter (λ y. not (p y)) xs in
      ap (λ b. if not b then x ∷ rest else rest) parts.0 ∙ ap (λ ys. x ∷ ys) (none_dropped xs parts.1)

  pub none_in_fewer : (kept : X → Bool) (xs : List X) → list_any p xs ≡ false → list_any p (filter kept xs) ≡ false
  none_in_fewer kept xs none =
      elim (list_any p (filter kept xs)) as (λ b. list_any p (filter kept xs) ≡ b → b ≡ false) [
        | true ↦ λ some. contradiction (list_any p xs) (any_of_filter p kept xs some) none
        | false ↦ λ is. refl
      ] refl

-- whether one of some has a name
pub among_names : {X : Type 0} (name_of : X → List ℕ) (name : List ℕ) (xs : List X)
    → is_among name (map name_of xs) ≡ list_any (λ x. same_name name (name_of x)) xs
among_names name_of name [] = refl
among_names name_of name (x ∷ xs) = ap (λ b. same_name name (name_of x) || b) (among_names name_of name xs)
