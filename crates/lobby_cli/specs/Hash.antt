-- What `hash` reads and prints.
use Rattle.std.specs.Prelude.{ℕ, ◌-◌, Bool, ◌==◌, List, [], ◌∷◌, ◌++◌, length, take, slice_index, Option, if◌then◌else◌}
use Rattle.std.specs.List.{list_any}
use Rattle.std.specs.Io.KnownBytes.{Appends}
use Rattle.account_book.specs.Password.{word_of}

-- Whether a byte is an LF
abbrev pub is_line_feed : ℕ → Bool
is_line_feed byte = byte == 10

-- What stands before the first LF of an input, or all of it
abbrev pub first_line : List ℕ → List ℕ
first_line [] = []
first_line (byte ∷ bytes) = if is_line_feed byte then [] else byte ∷ first_line bytes

-- a line without one CR at its end
abbrev pub without_return : List ℕ → List ℕ
without_return line =
    if slice_index line (length line - 1) == 13 then take (length line - 1) line else line

-- The password in an input: its first line without the line's end. Where there is no LF, a CR is
-- no end
abbrev pub password_in : List ℕ → List ℕ
password_in input =
    if list_any is_line_feed input then without_return (first_line input) else input

-- What is printed for a password: its word and an LF
abbrev pub word_line : List ℕ → List ℕ
word_line password = word_of password ++ 10 ∷ []

-- A writer gained the front of a text: all of it, where no write was refused
abbrev pub GainsFront : Option (List ℕ) → Option (List ℕ) → List ℕ → Type 0
GainsFront old new text = (count : ℕ) × Appends old new (take count text)
