-- The table of requests in code, and that of commands.
use Rattle.std.specs.Prelude.{◌≡◌, List, [], ◌∷◌, Option, Some, None, map}
use Rattle.command_grammar.specs.Table.{Entry}
use Rattle.lobby_lines.specs.declared.request_table.RequestRow.{RequestRow}
use Rattle.lobby_lines.specs.Requests.{kind_of}

-- the row of an entry: its word and kinds
abbrev pub IsRow : Entry → RequestRow → Type 0
IsRow e row = (row.word.now ≡ e.word) × (map kind_of row.kinds.now ≡ e.kinds)

-- the row of what stands at a number
abbrev pub IsRowOf : Option Entry → RequestRow → Type 0
IsRowOf None row = ⊥
IsRowOf (Some e) row = IsRow e row

-- the rows of these entries, one for each
abbrev pub AreRows : List Entry → List RequestRow → Type 0
AreRows [] [] = Unit {0}
AreRows [] (r ∷ rs) = ⊥
AreRows (e ∷ es) [] = ⊥
AreRows (e ∷ es) (r ∷ rs) = IsRow e r × AreRows es rs
