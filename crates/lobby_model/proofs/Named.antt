-- Who is found by a name has it, and those who are left without a name have the others.
use Rattle.std.proofs.Common.{◌≡◌, List, [], ◌∷◌, ℕ, map, filter, not, refl, sym, ap, true, false}
use Rattle.std.specs.Prelude.{Option, Some, None, if◌then◌else◌}
use Rattle.line_words.specs.Table.{same_name, all_but}
use Rattle.line_words.proofs.Tables.{same_name_is}
use Rattle.lobby_model.specs.Outcome.{is_named}

pub named_so : (name : List ℕ) (found : Option (List ℕ)) → is_named (same_name name) found ≡ true → found ≡ Some name
named_so name None is = absurd (cc)
named_so name (Some n) is = ap (λ k. Some k) (sym (same_name_is name n is))

pub names_but : {X : Type 0} (name_of : X → List ℕ) (name : List ℕ) (xs : List X)
    → map name_of (filter (λ x. not (same_name name (name_of x))) xs) ≡ all_but name (map name_of xs)
names_but name_of name [] = refl
names_but name_of name (x ∷ xs) =
    let rest = filter (λ y. not (same_name name (name_of y))) xs in
    elim (not (same_name name (name_of x))) as (λ stays. map name_of (if stays then x ∷ rest else rest)
    ≡ (if stays then name_of x ∷ all_but name (map name_of xs) else all_but name (map name_of xs))) [
      | true ↦ ap (λ names. name_of x ∷ names) (names_but name_of name xs)
      | false ↦ names_but name_of name xs
    ]
