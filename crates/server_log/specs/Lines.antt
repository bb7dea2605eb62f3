-- The form of a line of the log.
use Rattle.std.specs.Prelude.{◌≡◌, ℕ, ◌+◌, ◌/◌, ◌%◌, Bool, true, ◌||◌, ◌&&◌, ◌==◌, nat_le, nat_lt, List, [], ◌∷◌}
use Rattle.std.specs.Prelude.{◌++◌, if◌then◌else◌}
use Rattle.std.specs.List.{flat_map, list_all}

-- a byte that stands as it is: letters, digits and `-`, `.`, `:`, `[`, `]`, `_`
abbrev pub is_plain : ℕ → Bool
is_plain b = (nat_le 48 b && nat_le b 58) || (nat_le 65 b && nat_le b 91) || (nat_le 97 b && nat_le b 122) || b == 45
    || b == 46 || b == 93 || b == 95

-- the hexadecimal digit of a number's last four bits
abbrev pub hex : ℕ → ℕ
hex n = if nat_lt (n % 16) 10 then 48 + n % 16 else 55 + n % 16

-- what stands for a byte: itself, or `%` and its two hexadecimal digits
abbrev pub harmless_byte : ℕ → List ℕ
harmless_byte b = if is_plain b then b ∷ [] else 37 ∷ hex (b / 16) ∷ hex b ∷ []

-- what stands for some bytes
unfoldable pub harmless : List ℕ → List ℕ
harmless = flat_map harmless_byte

-- a space, a key, `=` and a value
unfoldable pub field : List ℕ × List ℕ → List ℕ
field f = (32 ∷ harmless f.0 ++ 61 ∷ []) ++ harmless f.1

-- a word, fields and LF
abbrev pub line : List ℕ → List (List ℕ × List ℕ) → List ℕ
line word fields = harmless word ++ (flat_map field fields ++ 10 ∷ [])

-- a byte that a terminal shows, or a space
abbrev pub is_visible : ℕ → Bool
is_visible b = nat_le 32 b && nat_le b 126

-- visible bytes, and behind them the one LF
abbrev pub IsOneLine : List ℕ → Type 0
IsOneLine line = (text : List ℕ) × (line ≡ text ++ 10 ∷ []) × (list_all is_visible text ≡ true)
