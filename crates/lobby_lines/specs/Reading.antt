-- A line read as fields.
use Rattle.std.specs.Prelude.{◌≡◌, ◌++◌, ℕ, List, [], ◌∷◌, Option, Some, None}
use Rattle.reply_kinds.specs.Kinds.{Kind}
use Rattle.reply_fields.specs.Fields.{◌>>=◌, if_end}
use Rattle.reply_grammar.specs.Reading.{field}
use Rattle.lobby_lines.specs.Fields.{Field, Laid, Adds}
use Rattle.lobby_lines.specs.Replies.{shown}

-- the fields of one argument, and the bytes behind it
abbrev pub field_seen : Kind → List ℕ → Option (List Field × List ℕ)
field_seen k bytes = field k bytes >>= λ x. Some (shown k x.0, x.1)

-- the fields of arguments of these kinds, to the end, behind those that are there
abbrev pub seen_from : List Field → List Kind → List ℕ → Option (List Field)
seen_from done [] bytes = if_end done bytes
seen_from done (k ∷ ks) bytes = field_seen k bytes >>= λ x. seen_from (done ++ x.0) ks x.1

-- what was read was added, and this is left
abbrev pub Took : Option (List Field × List ℕ) → List ℕ → Laid → Laid → Type 0
Took None rest old new = ⊥
Took (Some x) rest old new = (rest ≡ x.1) × Adds x.0 old new

-- all that was read was added
abbrev pub TookAll : Option (List Field) → Laid → Laid → Type 0
TookAll None old new = ⊥
TookAll (Some fields) old new = Adds fields old new
