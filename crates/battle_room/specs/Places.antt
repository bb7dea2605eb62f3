-- Start rectangles in places, one for each ally number.
use Rattle.std.specs.Prelude.{ℕ, ◌+◌, List, [], ◌∷◌, Option, Some, None}
use Rattle.line_words.specs.Table.{ByNumber}

module _ {X : Type 0} where
  -- what stands in places whose first has the number n, by number
  abbrev pub numbered : ℕ → List (Option X) → ByNumber X
  numbered n [] = []
  numbered n (None ∷ places) = numbered (n + 1) places
  numbered n (Some x ∷ places) = (n, x) ∷ numbered (n + 1) places
