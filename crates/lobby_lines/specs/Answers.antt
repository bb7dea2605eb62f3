-- What a call that gives a table answers.
use Rattle.std.specs.Prelude.{◌≡◌, ◌++◌, ◌&&◌, ℕ, Bool, true, false, nat_le, nat_eq, List, [], ◌∷◌, length, drop}
use Rattle.std.specs.Prelude.{flat_map, Option, Some, None, IsTrue}
use Rattle.std.specs.List.{list_any}
use Rattle.lobby_lines.specs.declared.table.Size.{Size}
use Rattle.lobby_lines.specs.Layout.{rows_from}

-- the statuses
abbrev pub ok : ℕ
ok = 0

abbrev pub no_memory : ℕ
no_memory = 1

abbrev pub line_too_long : ℕ
line_too_long = 2

abbrev pub no_room : ℕ
no_room = 3

abbrev pub not_there : ℕ
not_there = 4

abbrev pub no_reply : ℕ
no_reply = 5

abbrev pub no_command : ℕ
no_command = 6

abbrev pub bad_fields : ℕ
bad_fields = 7

abbrev pub out_of_range : ℕ
out_of_range = 8

abbrev pub nothing_listed : ℕ
nothing_listed = 9

abbrev pub word_skipped : ℕ
word_skipped = 10

abbrev pub request_too_long : ℕ
request_too_long = 11

-- the memory that a caller lends for a table
pub record Lent (R : Type 0) : Type 0 where
  pub rows : List R
  pub text : List ℕ
  pub size : Size

module _ {R : Type 0} where
  abbrev pub lent : List R → List ℕ → Size → Lent R
  lent rows text size = record { rows = rows; text = text; size = size }

  abbrev pub size_of : List R → List ℕ → Size
  size_of rows text = record { rows = length rows; text = length text }

  -- whether there is room for these rows and this text
  abbrev pub fits : List R → List ℕ → Lent R → Bool
  fits rows text room = nat_le (length rows) (length room.rows) && nat_le (length text) (length room.text)

  -- the memory with a table in front, and what is behind it as it was
  abbrev pub filled : List R → List ℕ → Lent R → Lent R
  filled rows text room = lent (rows ++ drop (length rows) room.rows) (text
      ++ drop (length text) room.text) (size_of rows text)

  -- what the answer says of these rows and this text, and of the memory before and after
  pub record Answers (rows : List R) (text : List ℕ) (status : ℕ) (old new : Lent R) : Type 0 where
    pub given : status ≡ ok → (fits rows text old ≡ true) × (new ≡ filled rows text old)
    pub refused : status ≡ no_memory → new ≡ old
    pub short : status ≡ no_room → (fits rows text old ≡ false) × (new ≡ record old { size = size_of rows text })
    pub one_of : IsTrue (list_any (nat_eq status) (ok ∷ no_memory ∷ no_room ∷ []))

module _ {X R : Type 0} (row : ℕ → X → R) (shown : X → List ℕ) where
  -- the same of the table of these items
  abbrev pub Shows : List X → ℕ → Lent R → Lent R → Type 0
  Shows xs status old new = Answers (rows_from row shown 0 xs) (flat_map shown xs) status old new

  -- the same of items that may not be there
  abbrev pub ShowsIf : Option (List X) → ℕ → Lent R → Lent R → Type 0
  ShowsIf None status old new = (status ≡ not_there) × (new ≡ old)
  ShowsIf (Some xs) status old new = Shows xs status old new
