-- Slots as they were before some changes, from the notes of these.
use Rattle.std.specs.Prelude.{List, [], ◌∷◌, Option, Some, None}
use Rattle.std.specs.declared.cmp.Ordering.{Ordering}
use Rattle.std.specs.Option.{option_map}
use Rattle.line_words.specs.Table.{without, change}
use Rattle.noted_map.specs.declared.note.Note.{Note}
use Rattle.noted_map.specs.declared.note.Note.TheVariants.{Came, Was, Part}

-- the note of what a place held, if there was one
abbrev pub place_note : {X U : Type 0} → Option (Option X) → Note X U
place_note None = Came
place_note (Some held) = Was held

module _ {K X U : Type 0} (R : K → K → Ordering) (back : U → X → X) where
  abbrev pub undo_at : K → Note X U → List (K × Option X) → List (K × Option X)
  undo_at k Came es = without R es k
  undo_at k (Was held) es = change R es k (λ _. held)
  undo_at k (Part undo) es = change R es k (option_map (back undo))

  -- the newest note, which is the last, is undone first
  abbrev pub undone : List (K × Note X U) → List (K × Option X) → List (K × Option X)
  undone [] es = es
  undone (n ∷ ns) es = undo_at n.0 n.1 (undone ns es)
