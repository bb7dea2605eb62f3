-- Lists of numbers that are filtered.
use Rattle.std.proofs.Common.{◌≡◌, ◌∙◌, List, [], ◌∷◌, refl, ap, Bool, true, false, cond, filter}

pub filter-twice : {X : Type 0} (p : X → Bool) (xs : List X) → filter p (filter p xs) ≡ filter p xs
filter-twice p [] = refl
filter-twice p (x ∷ xs) =
    elim (p x) as (λ b. p x ≡ b → filter p (cond b (x ∷ filter p xs) (filter p xs)) ≡ cond b (x ∷ filter p xs) (filter p xs)) [
      | true ↦ λ t. ap (λ b. cond b (x ∷ filter p (filter p xs)) (filter p (filter p xs))) t ∙ ap (λ ys. x ∷ ys) (filter-twice p xs)
      | false ↦ λ t. filter-twice p xs
    ] refl
