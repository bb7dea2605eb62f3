-- The lines of a script.
use Rattle.std.specs.Prelude.{ℕ, ◌==◌, List, [], Option, Some, None}
use Rattle.std.specs.List.{slice_split}
use Rattle.std.specs.Borrow.{Bor}

-- The parts between line feeds. Behind a last line feed stands one empty part more
abbrev pub lines_of : List ℕ → List (List ℕ)
lines_of script = slice_split (λ b. b == 10) script

-- the lines that are left
abbrev pub lines_left : Option (Bor (List ℕ)) → List (List ℕ)
lines_left None = []
lines_left (Some text) = lines_of text.now
