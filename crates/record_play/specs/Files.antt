-- The lines of the files of a record.
use Rattle.std.specs.Prelude.{◌≡◌, ℕ, ◌+◌, ◌-◌, ◌^◌, ◌<◌, ◌⊎◌, false, List, [], ◌∷◌, ◌++◌, codes, decimal, Option}
use Rattle.std.specs.Prelude.{Some, None, flat_map, length, map}
use Rattle.std.specs.Borrow.{Bor}
use Rattle.std.specs.List.{AllByRecursion, range_with_len}
use Rattle.std.specs.List.Sorted.{IsNonDecreasingBy}
use Rattle.line_words.specs.Bytes.{has_byte}
use Rattle.proxy_line.specs.Words.{PartedAt}
use Rattle.record_play.specs.declared.file.RecordLine.{RecordLine}

-- a number of 64 bits in decimal, without leading zeros
abbrev pub IsPlace : List ℕ → ℕ → Type 0
IsPlace text place = (text ≡ decimal place) × (place < 2 ^ 64)

-- the place of an event, a space and a step
abbrev pub HasPlace : List ℕ → ℕ → List ℕ → Type 0
HasPlace line place step = (digits : List ℕ) × PartedAt 32 line digits step × IsPlace digits place

-- the lines of a file, and why there are no more
pub record FileLines : Type 0 where
  pub lines : List RecordLine
  pub why : Option (List ℕ)

-- a line as it stands in its file
abbrev pub written : RecordLine → List ℕ
written l = decimal l.place ++ 32 ∷ (l.step.now ++ 10 ∷ [])

-- a line of the file of this number, whose step is what stands before an LF
abbrev pub IsLineOf : ℕ → RecordLine → Type 0
IsLineOf file l = (l.file ≡ file) × (l.place < 2 ^ 64) × (has_byte 10 l.step.now ≡ false)

-- no line is whole any more, or the last one tells why there are no more
abbrev pub IsOver : List ℕ → Option (List ℕ) → Type 0
IsOver rest None = has_byte 10 rest ≡ false
IsOver rest (Some why) = PartedAt 10 rest (codes "end " ++ why) []

-- What a text has that is the file of this number: lines at places that do not fall, counted from 1, and the rest
pub record IsFile (file : ℕ) (text : List ℕ) (of : FileLines) : Type 0 where
  pub rest : List ℕ
  pub whole : text ≡ flat_map written of.lines ++ rest
  pub over : IsOver rest of.why
  pub each : AllByRecursion (IsLineOf file) of.lines
  pub counted : map (λ (l : RecordLine). l.number) of.lines ≡ range_with_len 1 (length of.lines)
  pub rises : IsNonDecreasingBy (λ (l : RecordLine). l.place) of.lines

-- it has no such lines
abbrev pub IsNoFile : ℕ → List ℕ → Type 0
IsNoFile file text = (of : FileLines) → IsFile file text of → ⊥

-- those of all files, file by file
abbrev pub all_lines : List FileLines → List RecordLine
all_lines [] = []
all_lines (file ∷ files) = file.lines ++ all_lines files

-- what the files list, of which the first has this number
abbrev pub ListFiles : ℕ → List (Bor (List ℕ)) → List FileLines → Type 0
ListFiles file [] files = files ≡ []
ListFiles file (text ∷ texts) files =
    (here : FileLines) × (later : List FileLines) × IsFile file text.now here × ListFiles (file + 1) texts later
    × (files ≡ here ∷ later)

-- the place of the last line; this one, where there is no line
abbrev pub last_place : ℕ → List RecordLine → ℕ
last_place place [] = place
last_place place (l ∷ lines) = last_place l.place lines

-- No line of this place was lost with the end of the file: it ends with its server, or goes on behind the place
abbrev pub HasPassed : ℕ → FileLines → Type 0
HasPassed place file = (file.why ≡ Some (codes "stop")) ⊎ (place < last_place 0 file.lines)

-- the places that were passed are those below this one
abbrev pub IsReach : (ℕ → Type 0) → ℕ → Type 0
IsReach Passed reach =
    (place : ℕ) → place < 2 ^ 64 - 1 → (Passed place → place < reach) × (place < reach → Passed place)
