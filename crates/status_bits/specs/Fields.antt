-- Status words: numbers of 32 bits that carry several small numbers, their fields.
use Rattle.std.specs.Prelude.{ℕ, ◌≡◌, ◌*◌, ◌/◌, ◌%◌, ◌^◌, ◌==◌, Bool, List, sum_by, if◌then◌else◌}
use Rattle.std.specs.List.{AllByRecursion}

-- A field: its first bit, how many bits it has, and whether a client sets it for itself
pub record Field : Type 0 where
  pub first : ℕ
  pub width : ℕ
  pub own : Bool

-- The number that stands in a field of a word
abbrev pub number_in : Field → ℕ → ℕ
number_in field word = word / 2 ^ field.first % 2 ^ field.width

-- Whether a field of one bit is set
abbrev pub is_set : Field → ℕ → Bool
is_set field word = number_in field word == 1

-- The word that has these numbers in the fields of a table, and no other bit
abbrev pub word_of : List Field → (Field → ℕ) → ℕ
word_of table numbers = sum_by (λ field. numbers field * 2 ^ field.first) table

-- No bit of a word stands outside the fields of a table
abbrev pub HasNoOtherBit : List Field → ℕ → Type 0
HasNoOtherBit table word = word ≡ word_of table (λ field. number_in field word)

-- A word with another number in one of its fields
abbrev pub with_number : List Field → Field → ℕ → ℕ → ℕ
with_number table field number word =
    word_of table (λ other. if other.first == field.first then number else number_in other word)

-- The word that a client's wish leads to: its own fields as asked, the others as they were
abbrev pub merge : List Field → ℕ → ℕ → ℕ
merge table old asked = word_of table (λ field. number_in field (if field.own then asked else old))

-- What a setter does: the one field has the number, and each other field what it had
abbrev pub SetsOne : List Field → Field → ℕ → ℕ → ℕ → Type 0
SetsOne table field number old new =
    AllByRecursion
    (λ other. number_in other new
    ≡ (if other.first == field.first then number else number_in other old))
    table

-- What a merge does: each field has what it has in the word that the table names for it
abbrev pub Merges : List Field → ℕ → ℕ → ℕ → Type 0
Merges table old asked new =
    AllByRecursion
    (λ field. number_in field new ≡ number_in field (if field.own then asked else old))
    table
