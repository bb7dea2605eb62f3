-- Values that are looked up by their names: each stands in an index behind its own name.
use Rattle.std.specs.Prelude.{◌≡◌, ℕ, List, nat_eq}
use Rattle.std.specs.List.{AllByRecursion, IsDistinct}
use Rattle.std.specs.Cmp.Lexicographic.{pointwise}
use Rattle.std.specs.Map.{keys_of}

module _ {K V : Type 0} (bytes : K → List ℕ) (name : V → List ℕ) where
  -- each key has the bytes of its value's name
  abbrev pub IsIndex : List (K × V) → Type 0
  IsIndex entries = AllByRecursion (λ e. bytes e.0 ≡ name e.1) entries

-- no key stands twice
abbrev pub AreApart : {V : Type 0} → List (List ℕ × V) → Type 0
AreApart entries = IsDistinct (pointwise nat_eq) (keys_of entries)
