-- How a table lies in memory: its rows, and one text, in which the texts of a row stand one behind the other.
use Rattle.std.specs.Prelude.{◌≡◌, ◌+◌, ℕ, List, [], ◌∷◌, length, flat_map}
use Rattle.lobby_lines.specs.declared.table.Place.{Place}

-- the place of these bytes, where the first stands at n
abbrev pub place : ℕ → List ℕ → Place
place n bytes = record { start = n; length = length bytes }

-- what a table of texts shows of one
abbrev pub itself : List ℕ → List ℕ
itself bytes = bytes

module _ {X R : Type 0} (row : ℕ → X → R) (shown : X → List ℕ) where
  -- the rows of items, where the text of the first begins at n
  abbrev pub rows_from : ℕ → List X → List R
  rows_from n [] = []
  rows_from n (x ∷ xs) = row n x ∷ rows_from (n + length (shown x)) xs

  -- these rows and this text are the table of these items
  abbrev pub IsTable : List X → List R → List ℕ → Type 0
  IsTable xs rows text = (rows ≡ rows_from 0 xs) × (text ≡ flat_map shown xs)
