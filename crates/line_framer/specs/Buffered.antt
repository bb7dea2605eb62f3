-- What a framer keeps in its buffer, and what a search of bytes for line ends finds.
use Rattle.std.specs.Prelude.{◌≡◌, ◌≢◌, ℕ, ◌<◌, ◌≤◌, Bool, false, List, Option, MatchOption, length, take, drop}
use Rattle.std.specs.Prelude.{slice_index}
use Rattle.line_framer.specs.Frames.{with_ends, lines_in, rest_of, is_spoilt, sound_lines}

-- no byte is an LF
abbrev pub HasNoEnd : List ℕ → Type 0
HasNoEnd bytes = (k : ℕ) → k < length bytes → slice_index bytes k ≢ 10

-- the first LF is at n
pub record FirstEndAt (bytes : List ℕ) (n : ℕ) : Type 0 where
  pub within : n < length bytes
  pub is_end : slice_index bytes n ≡ 10
  pub before : (k : ℕ) → k < n → slice_index bytes k ≢ 10

-- the last LF is at n
pub record LastEndAt (bytes : List ℕ) (n : ℕ) : Type 0 where
  pub within : n < length bytes
  pub is_end : slice_index bytes n ≡ 10
  pub behind : (k : ℕ) → n < k → k < length bytes → slice_index bytes k ≢ 10

abbrev pub IsFirstEnd : List ℕ → Option ℕ → Type 0
IsFirstEnd bytes place = MatchOption place (HasNoEnd bytes) (FirstEndAt bytes)

abbrev pub IsLastEnd : List ℕ → Option ℕ → Type 0
IsLastEnd bytes place = MatchOption place (HasNoEnd bytes) (LastEndAt bytes)

-- a framer's buffer from the next line on: where that line ends, and how many bytes the whole lines take; no line is
-- too long
pub record IsBuffered (ahead : List ℕ) (next : Option ℕ) (whole limit : ℕ) : Type 0 where
  pub within : whole ≤ length ahead
  pub rest : rest_of ahead ≡ drop whole ahead
  pub next_end : IsFirstEnd ahead next
  pub sound : is_spoilt ahead limit ≡ false

-- how many bytes the lines before the spoilt place take, and whether there is one
pub record IsCut (bytes : List ℕ) (limit whole : ℕ) (spoilt : Bool) : Type 0 where
  pub spoilt_is : spoilt ≡ is_spoilt bytes limit
  pub lines : with_ends (sound_lines limit (lines_in bytes)) ≡ take whole bytes
  pub rest : spoilt ≡ false → rest_of bytes ≡ drop whole bytes
