-- A map is kept in places, of which some are empty: what they show is the entries of the others.
use Rattle.std.specs.Prelude.{ℕ, List, [], ◌∷◌, Option, Some, None}

abbrev pub one : {X : Type 0} → Option X → ℕ
one None = 0
one (Some x) = 1

-- how many values a place holds, if there is one
abbrev pub one_in : {X : Type 0} → Option (Option X) → ℕ
one_in None = 0
one_in (Some held) = one held

-- how many values come where a place, if there is one, is to hold so many
abbrev pub coming : {X : Type 0} → Option (Option X) → ℕ → ℕ
coming None more = 0
coming (Some was) more = more

module _ {K X : Type 0} where
  abbrev pub with_live : K → Option X → List (K × X) → List (K × X)
  with_live k None rest = rest
  with_live k (Some x) rest = (k, x) ∷ rest

  abbrev pub live : List (K × Option X) → List (K × X)
  live [] = []
  live (e ∷ es) = with_live e.0 e.1 (live es)
