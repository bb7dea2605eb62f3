-- A printed step says that step, in one line.
use Rattle.std.proofs.Common.{◌≡◌, ℕ, ◌<◌, ◌^◌, false, ◌||◌, nat_eq, List, [], ◌∷◌, ◌++◌, get_or, refl, sym, ap, ◌∙◌}
use Rattle.std.proofs.Common.{arith, decimal, append-nil, append_assoc}
use Rattle.line_words.specs.Bytes.{has_byte}
use Rattle.proxy_line.specs.Words.{IsAddress, dotted}
use Rattle.proxy_line.proofs.Parts.{lacks-append, lacks_digits}
use Rattle.record_lines.specs.Steps.{Step, Open, Send, Take, Read, Shut, StepArguments, IsLine, AreLinesOf}
use Rattle.record_lines.specs.Steps.{step_verb}
use Rattle.record_lines.specs.Printed.{AreOctets, escaped, HasRanges, Prints, front, label_of, printed, printed_rest}
use Rattle.record_lines.proofs.EscapedBytes.{stands, lacks_feed}

address : (ip : List ℕ) → AreOctets ip
    → IsAddress (dotted (get_or ip 0 0) (get_or ip 1 0) (get_or ip 2 0) (get_or ip 3 0)) ip
address [] are = absurd (omega (arith, are.0))
address (a ∷ []) are = absurd (omega (arith, are.0))
address (a ∷ b ∷ []) are = absurd (omega (arith, are.0))
address (a ∷ b ∷ c ∷ []) are = absurd (omega (arith, are.0))
address (a ∷ b ∷ c ∷ d ∷ []) are = (refl, are.1, are.2, are.3, are.4)
address (a ∷ b ∷ c ∷ d ∷ e ∷ rest) are = absurd (omega (arith, are.0))

label_small : (s : Step) → HasRanges s → label_of s < 2 ^ 32
label_small (Open label ip) ranges = ranges.0
label_small (Send label bytes) ranges = ranges
label_small (Take label) ranges = ranges
label_small (Read label count) ranges = ranges.0
label_small (Shut label) ranges = ranges

arguments : (s : Step) → HasRanges s → StepArguments (decimal (label_of s) ++ printed_rest s) s
arguments (Open label ip) ranges = (_, (refl, ranges.0), address ip ranges.1)
arguments (Send label bytes) ranges = (escaped bytes, (refl, ranges), stands bytes)
arguments (Take label) ranges = (append-nil (decimal label), ranges)
arguments (Read label count) ranges = (decimal count, (refl, ranges.0), (refl, ranges.1))
arguments (Shut label) ranges = (append-nil (decimal label), ranges)

-- the line without its LF
abbrev line_of : ℕ → Step → List ℕ
line_of place s = decimal place ++ 32 ∷ (step_verb s ++ 32 ∷ (decimal (label_of s) ++ printed_rest s))

is_line : (place : ℕ) (s : Step) → place < 2 ^ 64 → HasRanges s → IsLine (line_of place s) place s
is_line place s few ranges = record {
  behind = step_verb s ++ 32 ∷ (decimal (label_of s) ++ printed_rest s);
  whole = refl;
  small = few;
  says = record { rest = decimal (label_of s) ++ printed_rest s; whole = refl; arguments = arguments s ranges };
}

no_feed : (n : ℕ) → n < 2 ^ 64 → has_byte 10 (decimal n) ≡ false
no_feed n small = lacks_digits 10 n (omega arith) small

behind_separator : (m : ℕ) (text : List ℕ) → nat_eq m 10 ≡ false → has_byte 10 text ≡ false → has_byte 10 (m ∷ text) ≡ false
behind_separator m text other lacks = ap (λ here. here || has_byte 10 text) other ∙ lacks

-- a number and what stands behind a separator
numbered : (n m : ℕ) (text : List ℕ) → n < 2 ^ 64 → nat_eq m 10 ≡ false → has_byte 10 text ≡ false
    → has_byte 10 (decimal n ++ m ∷ text) ≡ false
numbered n m text small other lacks =
    lacks-append 10 (decimal n) (m ∷ text) (no_feed n small) (behind_separator m text other lacks)

octets : (a b c d : ℕ) → a < 2 ^ 8 → b < 2 ^ 8 → c < 2 ^ 8 → d < 2 ^ 8 → has_byte 10 (dotted a b c d) ≡ false
octets a b c d p q r s =
    numbered a 46 (decimal b ++ 46 ∷ (decimal c ++ 46 ∷ decimal d)) (omega (arith, p)) refl
    (numbered b 46 (decimal c ++ 46 ∷ decimal d) (omega (arith, q)) refl
    (numbered c 46 (decimal d) (omega (arith, r)) refl (no_feed d (omega (arith, s)))))

rest_lacks : (s : Step) → HasRanges s → has_byte 10 (printed_rest s) ≡ false
rest_lacks (Open label ip) ranges =
    octets (get_or ip 0 0) (get_or ip 1 0) (get_or ip 2 0) (get_or ip 3 0) ranges.1.1 ranges.1.2 ranges.1.3 ranges.1.4
rest_lacks (Send label bytes) ranges = lacks_feed bytes
rest_lacks (Take label) ranges = refl
rest_lacks (Read label count) ranges = no_feed count (omega (arith, ranges.1))
rest_lacks (Shut label) ranges = refl

verb_lacks : (s : Step) → has_byte 10 (step_verb s) ≡ false
verb_lacks (Open label ip) = refl
verb_lacks (Send label bytes) = refl
verb_lacks (Take label) = refl
verb_lacks (Read label count) = refl
verb_lacks (Shut label) = refl

one_line : (place : ℕ) (s : Step) → place < 2 ^ 64 → HasRanges s → has_byte 10 (line_of place s) ≡ false
one_line place s few ranges =
    let small = label_small s ranges in
    let label = lacks-append 10 (decimal (label_of s)) (printed_rest s) (no_feed (label_of s) (omega (arith, small)))
    (rest_lacks s ranges) in
    numbered place 32 (step_verb s ++ 32 ∷ (decimal (label_of s) ++ printed_rest s)) few refl
    (lacks-append 10 (step_verb s) (32 ∷ (decimal (label_of s) ++ printed_rest s)) (verb_lacks s)
    (behind_separator 32 (decimal (label_of s) ++ printed_rest s) refl label))

parted : (place : List ℕ) (verb label rest : List ℕ)
    → (place ++ 32 ∷ (verb ++ 32 ∷ label)) ++ (rest ++ 10 ∷ []) ≡ (place ++ 32 ∷ (verb ++ 32 ∷ (label ++ rest))) ++ 10 ∷ []
parted place verb label rest = simp append_assoc

-- one line more
pub more_lines : (place : ℕ) (s : Step) (steps : List Step) (text : List ℕ) → place < 2 ^ 64 → HasRanges s
    → AreLinesOf place steps text → AreLinesOf place (s ∷ steps) (printed place s ++ text)
more_lines place s steps text few ranges lines = (
  line_of place s,
  text,
  is_line place s few ranges,
  one_line place s few ranges,
  ap (λ (t : List ℕ). t ++ text) (parted (decimal place) (step_verb s) (decimal (label_of s)) (printed_rest s))
      ∙ append_assoc (line_of place s) (10 ∷ []) text,
  lines,
)

-- A line is put piece by piece

pieces : (old front rest end a b new : List ℕ) → a ≡ old ++ front → b ≡ a ++ rest → new ≡ b ++ end
    → new ≡ old ++ (front ++ (rest ++ end))
pieces old front rest end a b new p q r =
    r ∙ ap (λ (x : List ℕ). x ++ end) (q ∙ ap (λ (x : List ℕ). x ++ rest) p)
    ∙ append_assoc (old ++ front) rest end ∙ append_assoc old front (rest ++ end)

-- its front, its rest and its LF
pub put_so : (place : ℕ) (s : Step) (old a b new : List ℕ) → a ≡ old ++ front place (step_verb s) (label_of s)
    → b ≡ a ++ printed_rest s → new ≡ b ++ 10 ∷ [] → place < 2 ^ 64 → HasRanges s → Prints place s old new
put_so place s old a b new p q r few ranges =
    (pieces old (front place (step_verb s) (label_of s)) (printed_rest s) (10 ∷ []) a b new p q r, few, ranges)

-- all of it at once
pub put_whole : (place : ℕ) (s : Step) (old line new : List ℕ)
    → line ≡ (front place (step_verb s) (label_of s) ++ printed_rest s) ++ 10 ∷ [] → new ≡ old ++ line → place < 2 ^ 64
    → HasRanges s → Prints place s old new
put_whole place s old line new p q few ranges = (
  q ∙ ap (λ (t : List ℕ). old ++ t) (p ∙ append_assoc (front place (step_verb s) (label_of s)) (printed_rest s) (10 ∷ [])),
  few,
  ranges,
)

-- its front and its LF
pub put_bare : (place : ℕ) (s : Step) (old a new : List ℕ) → printed_rest s ≡ []
    → a ≡ old ++ front place (step_verb s) (label_of s) → new ≡ a ++ 10 ∷ [] → place < 2 ^ 64 → HasRanges s
    → Prints place s old new
put_bare place s old a new none p r few ranges =
    put_so place s old a a new p (sym (append-nil a) ∙ ap (λ (t : List ℕ). a ++ t) (sym none)) r few ranges
