-- The fields of a line, and how they lie in a table.
use Rattle.std.specs.Prelude.{◌≡◌, ◌++◌, ℕ, ℤ, pos, List, [], length, flat_map}
use Rattle.lobby_lines.specs.declared.table.Place.{Place}
use Rattle.lobby_lines.specs.Layout.{place, rows_from}
use Rattle.lobby_lines.specs.declared.fields.FieldRow.{FieldRow}

pub data Field : Type 0 where
  -- an argument that was left out
  Absent : Field
  Text : List ℕ → Field
  Number : ℤ → Field

-- a row of these parts
abbrev pub row : Place → ℤ → ℕ → FieldRow
row text number holds = record { text = text; number = number; holds = holds; unused = 0 }

-- the bytes of a field in the text of its table
abbrev pub field_shown : Field → List ℕ
field_shown Absent = []
field_shown (Text bytes) = bytes
field_shown (Number z) = []

-- the row of a field whose bytes begin at n
abbrev pub field_row : ℕ → Field → FieldRow
field_row n Absent = row (place n []) (pos 0) 0
field_row n (Text bytes) = row (place n bytes) (pos 0) 1
field_row n (Number z) = row (place n []) z 2

-- rows and text of a table that is not finished
pub record Laid : Type 0 where
  pub rows : List FieldRow
  pub text : List ℕ

abbrev pub laid : List FieldRow → List ℕ → Laid
laid rows text = record { rows = rows; text = text }

-- a table with these fields behind its own
pub record Adds (fields : List Field) (old new : Laid) : Type 0 where
  pub rows : new.rows ≡ old.rows ++ rows_from field_row field_shown (length old.text) fields
  pub text : new.text ≡ old.text ++ flat_map field_shown fields
