-- The lines of several files in the order of their places.
use Rattle.std.specs.Prelude.{◌≡◌, ◌≢◌, ℕ, ◌+◌, ◌==◌, ◌≤◌, ◌<◌, ◌⊎◌, List, [], ◌∷◌, length, Some, slice_get}
use Rattle.std.specs.Borrow.{Bor}
use Rattle.std.specs.List.{AllByRecursion, Contains, filter}
use Rattle.record_play.specs.Files.{FileLines, HasPassed, IsNoFile, ListFiles, all_lines}
use Rattle.record_play.specs.declared.fault.RecordFault.{RecordFault}
use Rattle.record_play.specs.declared.fault.RecordFault.TheVariants as fault
use Rattle.record_play.specs.declared.file.RecordLine.{RecordLine}

-- The places go up one by one, from the first behind `place`, of which lines of this file may stand before, to the last
-- before `missing`; lines of one place stand together, and are of one file
abbrev pub Rises : ℕ → ℕ → List RecordLine → ℕ → Type 0
Rises place file [] missing = missing ≡ place
Rises place file (l ∷ lines) missing =
    ((l.place ≡ place) × Rises (place + 1) l.file lines missing)
    ⊎ ((l.place + 1 ≡ place) × (l.file ≡ file) × Rises place file lines missing)

-- the lines of one place
abbrev pub at_place : ℕ → List RecordLine → List RecordLine
at_place place lines = filter (λ l. l.place == place) lines

-- What is given of all lines: those of each place before the first that none has, place by place. `each` says of that
-- place that none has it, since none of those given has
pub record IsJoined (all given : List RecordLine) (missing : ℕ) : Type 0 where
  pub rises : Rises 0 0 given missing
  pub each : (place : ℕ) → place ≤ missing → at_place place given ≡ at_place place all

-- the lines of the files, joined, of which none is left out where each file has passed what is missing
abbrev pub Joins : List (Bor (List ℕ)) → List RecordLine → ℕ → Type 0
Joins texts lines missing =
    (files : List FileLines) × ListFiles 0 texts files × IsJoined (all_lines files) lines missing
    × (AllByRecursion (HasPassed missing) files → length lines ≡ length (all_lines files))

-- each file has passed this place, which none has, and lines are left out for it
abbrev pub IsHole : List (Bor (List ℕ)) → ℕ → Type 0
IsHole texts missing =
    (files : List FileLines) × ListFiles 0 texts files × AllByRecursion (HasPassed missing) files
    × (lines : List RecordLine) × IsJoined (all_lines files) lines missing × (length lines < length (all_lines files))

-- lines of two files, of which these are numbers, have one place
pub record IsShared (all : List RecordLine) (file line other : ℕ) : Type 0 where
  pub one : RecordLine
  pub two : RecordLine
  pub one_is : Contains all one × (one.file ≡ file) × (one.number ≡ line)
  pub two_is : Contains all two × (two.file ≡ other)
  pub place : one.place ≡ two.place
  pub files : file ≢ other

-- why the files are not joined
abbrev pub IsFaultOf : List (Bor (List ℕ)) → RecordFault → Type 0
IsFaultOf texts (fault.BadLine file line) =
    (text : Bor (List ℕ)) × (slice_get texts file ≡ Some text) × IsNoFile file text.now
IsFaultOf texts (fault.TwoOfOnePlace file line other) =
    (files : List FileLines) × ListFiles 0 texts files × IsShared (all_lines files) file line other
IsFaultOf texts (fault.Hole missing) = IsHole texts missing
IsFaultOf texts (fault.OtherCourse file line) = ⊥
IsFaultOf texts fault.Memory = Unit {0}
