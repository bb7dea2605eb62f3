-- How a script writes the bytes that a client sends.
use Rattle.std.specs.Prelude.{◌≡◌, ◌≢◌, ℕ, ◌+◌, ◌*◌, ◌<◌, List, [], ◌∷◌, ◌++◌}
use Rattle.std.specs.Char.{digit_value}

-- the ways to write a byte: as it stands, if it is no backslash; `\n`, `\t`, `\r`, `\\`; or `\x` and two hexadecimal
-- digits of either case
pub data Written : ℕ → List ℕ → Type 0 where
  plain : {byte : ℕ} → byte ≢ 92 → Written byte (byte ∷ [])
  line_feed : Written 10 (92 ∷ 110 ∷ [])
  tab : Written 9 (92 ∷ 116 ∷ [])
  carriage_return : Written 13 (92 ∷ 114 ∷ [])
  backslash : Written 92 (92 ∷ 92 ∷ [])
  hexadecimal : {high low : ℕ} → digit_value high < 16 → digit_value low < 16
      → Written (16 * digit_value high + digit_value low) (92 ∷ 120 ∷ high ∷ low ∷ [])

-- the text begins with a byte that is written so, and this stands behind
abbrev pub BeginsWritten : List ℕ → ℕ → List ℕ → Type 0
BeginsWritten text byte behind = (front : List ℕ) × Written byte front × (text ≡ front ++ behind)

-- a text stands for bytes that are written one after another
abbrev pub StandsForBytes : List ℕ → List ℕ → Type 0
StandsForBytes text [] = text ≡ []
StandsForBytes text (byte ∷ bytes) = (behind : List ℕ) × BeginsWritten text byte behind × StandsForBytes behind bytes
