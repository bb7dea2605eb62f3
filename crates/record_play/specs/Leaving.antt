-- What is left out at the end of a file that was not written to its end.
use Rattle.std.specs.Prelude.{◌≡◌, ◌≢◌, ℕ, ◌⊎◌, false, List, [], ◌∷◌, ◌++◌, codes}
use Rattle.line_words.specs.Bytes.{has_byte}
use Rattle.record_play.specs.Files.{HasPlace}

-- a line by which a client sends bytes
abbrev pub IsSent : List ℕ → Type 0
IsSent line =
    (place : ℕ) × (client : List ℕ) × (bytes : List ℕ)
    × HasPlace line place (codes "send " ++ (client ++ 32 ∷ bytes))

-- a line that tells that a record ended before its server
abbrev pub IsCause : List ℕ → Type 0
IsCause line = (why : List ℕ) × (line ≡ codes "end " ++ why) × (why ≢ codes "stop")

-- nothing, or lines of which an LF ends the last
abbrev pub AreLines : List ℕ → Type 0
AreLines text = (text ≡ []) ⊎ ((front : List ℕ) × (text ≡ front ++ 10 ∷ []))

-- the last line of a text is one of this kind, and the others stand before it
pub record LastIs (IsOne : List ℕ → Type 0) (text before : List ℕ) : Type 0 where
  pub line : List ℕ
  pub whole : text ≡ before ++ (line ++ 10 ∷ [])
  pub lines : AreLines before
  pub single : has_byte 10 line ≡ false
  pub is_one : IsOne line

-- its last line is none of this kind
abbrev pub LastIsNot : (List ℕ → Type 0) → List ℕ → Type 0
LastIsNot IsOne text = (before : List ℕ) → LastIs IsOne text before → ⊥

-- all but a last line of this kind
abbrev pub LeavesLast : (List ℕ → Type 0) → List ℕ → List ℕ → Type 0
LeavesLast IsOne text given = LastIs IsOne text given ⊎ ((given ≡ text) × LastIsNot IsOne text)

-- A text is lines, and what no LF ends, which is left out. If the last line was sent, but for one behind it that tells
-- of an end, no line takes it, and it is left out with what is behind it; else all lines are given
abbrev pub LeavesOut : List ℕ → List ℕ → Type 0
LeavesOut text given =
    (lines : List ℕ) × (rest : List ℕ) × (text ≡ lines ++ rest) × AreLines lines × (has_byte 10 rest ≡ false)
    × (uncaused : List ℕ) × LeavesLast IsCause lines uncaused
    × (LastIs IsSent uncaused given ⊎ ((given ≡ lines) × LastIsNot IsSent uncaused))
