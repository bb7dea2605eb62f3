-- How a step is printed, of the ways in which its line may be written.
use Rattle.std.specs.Prelude.{◌≡◌, ℕ, ◌/◌, ◌%◌, ◌^◌, ◌<◌, ◌≤◌, ◌⊎◌, ◌==◌, ◌||◌, Bool, nat_lt, List, [], ◌∷◌, ◌++◌}
use Rattle.std.specs.Prelude.{decimal, if◌then◌else◌, flat_map, length, slice_index}
use Rattle.std.specs.Char.{digit_char}
use Rattle.proxy_line.specs.Words.{dotted}
use Rattle.record_lines.specs.declared.fault.RecordFault.{RecordFault}
use Rattle.record_lines.specs.declared.fault.RecordFault.TheVariants as refused
use Rattle.record_lines.specs.Steps.{Step, Open, Send, Take, Read, Shut, step_verb}

-- a byte that a terminal obeys
abbrev pub is_control : ℕ → Bool
is_control b = nat_lt b 32 || b == 127

-- two hexadecimal digits
abbrev pub hexadecimal_digits : ℕ → List ℕ
hexadecimal_digits b = digit_char (b / 16) ∷ digit_char (b % 16) ∷ []

-- a backslash and each byte that a terminal obeys as an escape, all others as they are
abbrev pub escaped_byte : ℕ → List ℕ
escaped_byte b =
    if b == 92 then 92 ∷ 92 ∷ []
    else (if b == 10 then 92 ∷ 110 ∷ []
    else (if b == 9 then 92 ∷ 116 ∷ []
    else (if b == 13 then 92 ∷ 114 ∷ []
    else (if is_control b then 92 ∷ 120 ∷ hexadecimal_digits b
    else b ∷ []))))

unfoldable pub escaped : List ℕ → List ℕ
escaped = flat_map escaped_byte

-- what stands behind the word and the label
abbrev pub printed_rest : Step → List ℕ
printed_rest (Open label ip) = 32 ∷ dotted (slice_index ip 0) (slice_index ip 1) (slice_index ip 2) (slice_index ip 3)
printed_rest (Send label bytes) = 32 ∷ escaped bytes
printed_rest (Take label) = []
printed_rest (Read label count) = 32 ∷ decimal count
printed_rest (Shut label) = []

-- four numbers of 8 bits
abbrev pub AreOctets : List ℕ → Type 0
AreOctets ip = (length ip ≡ 4) × (slice_index ip 0 < 2 ^ 8) × (slice_index ip 1 < 2 ^ 8) × (slice_index ip 2 < 2 ^ 8)
    × (slice_index ip 3 < 2 ^ 8)

-- the numbers of a step have the ranges of their types
abbrev pub HasRanges : Step → Type 0
HasRanges (Open label ip) = (label < 2 ^ 32) × AreOctets ip
HasRanges (Send label bytes) = label < 2 ^ 32
HasRanges (Take label) = label < 2 ^ 32
HasRanges (Read label count) = (label < 2 ^ 32) × (count < 2 ^ 32)
HasRanges (Shut label) = label < 2 ^ 32

abbrev pub label_of : Step → ℕ
label_of (Open label ip) = label
label_of (Send label bytes) = label
label_of (Take label) = label
label_of (Read label count) = label
label_of (Shut label) = label

-- the front of a line: a place, a word and a label
abbrev pub front : ℕ → List ℕ → ℕ → List ℕ
front place verb label = decimal place ++ 32 ∷ (verb ++ 32 ∷ decimal label)

-- the line of a step at a place, with its LF
abbrev pub printed : ℕ → Step → List ℕ
printed place s = front place (step_verb s) (label_of s) ++ (printed_rest s ++ 10 ∷ [])

-- the line of a step stands behind what was there, and its numbers have their ranges
abbrev pub Prints : ℕ → Step → List ℕ → List ℕ → Type 0
Prints place s old new = (new ≡ old ++ printed place s) × (place < 2 ^ 64) × HasRanges s

-- why a number is not written; it has more than 32 bits
abbrev pub NumberRefused : RecordFault → ℕ → Type 0
NumberRefused refused.Memory n = Unit {0}
NumberRefused refused.Number n = 2 ^ 32 ≤ n
NumberRefused refused.Line n = ⊥

-- why the line of a step is not written: that of its label, or of its count
abbrev pub StepRefused : RecordFault → Step → Type 0
StepRefused e (Read label count) = NumberRefused e label ⊎ NumberRefused e count
StepRefused e s = NumberRefused e (label_of s)
