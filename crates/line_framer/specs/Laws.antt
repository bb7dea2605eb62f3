-- How the frames of a stream go on, wherever it is cut.
use Rattle.std.specs.Prelude.{◌≡◌, ◌==◌, ℕ, ◌≤◌, true, false, List, [], ◌++◌, length}
use Rattle.std.specs.List.{list_any}
use Rattle.line_framer.specs.Frames.{frames, is_spoilt, rest_of, with_ends, without_cr}

-- more bytes give the frames that they give behind the unfinished line, and spoil the stream where they spoil that
pub record GoesOn (bytes more : List ℕ) (limit : ℕ) : Type 0 where
  pub frames_are : frames (bytes ++ more) limit ≡ frames bytes limit ++ frames (rest_of bytes ++ more) limit
  pub spoilt_is : is_spoilt (bytes ++ more) limit ≡ is_spoilt (rest_of bytes ++ more) limit
  pub rest_is : rest_of (bytes ++ more) ≡ rest_of (rest_of bytes ++ more)

-- more bytes change nothing
pub record StaysSpoilt (bytes more : List ℕ) (limit : ℕ) : Type 0 where
  pub frames_are : frames (bytes ++ more) limit ≡ frames bytes limit
  pub spoilt_is : is_spoilt (bytes ++ more) limit ≡ true

-- a line that comes out as it went in: no LF in it, no CR at its end, and no longer than the limit
pub record IsPlainLine (limit : ℕ) (line : List ℕ) : Type 0 where
  pub no_end : list_any (λ b. b == 10) line ≡ false
  pub no_cr : without_cr line ≡ line
  pub fits : length line ≤ limit

-- the bytes of lines have these lines as their frames, and nothing is left
pub record ComesOut (lines : List (List ℕ)) (limit : ℕ) : Type 0 where
  pub frames_are : frames (with_ends lines) limit ≡ lines
  pub spoilt_is : is_spoilt (with_ends lines) limit ≡ false
  pub rest_is : rest_of (with_ends lines) ≡ []
