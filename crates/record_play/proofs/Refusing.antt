-- Why a text is no file of a record.
use Rattle.std.proofs.Common.{◌≡◌, ◌≢◌, ℕ, ◌+◌, ◌^◌, ◌<◌, ◌≤◌, List, [], ◌∷◌, ◌++◌, Option, Some, None, codes, decimal, refl, sym, ap, ◌∙◌, subst, arith, append_assoc, length, get_or}
use Rattle.std.specs.Prelude.{flat_map}
use Rattle.std.specs.List.{AllByRecursion}
use Rattle.std.specs.List.Sorted.{IsNonDecreasingBy}
use Rattle.std.specs.Str.Parse.{digits_value}
use Rattle.std.proofs.lemmas.Fmt.{decimal_is_IsNumeral}
use Rattle.std.proofs.lemmas.List.Sorted.{IsNonDecreasingBy-drop}
use Rattle.std.proofs.lemmas.Str.Parse.{digit_at}
use Rattle.proxy_line.specs.Words.{PartedAt}
use Rattle.proxy_line.proofs.Parts.{lacks-append, lacks_digits, never_parted, parted_once}
use Rattle.record_play.specs.Files.{HasPlace, IsLineOf, IsNoFile, IsOver, last_place, written}
use Rattle.record_play.specs.declared.file.RecordLine.{RecordLine}
use Rattle.record_play.proofs.Filing.{SoFar}

-- numbers that are written alike are one number
written_once : (m n : ℕ) → m < 2 ^ 64 → n < 2 ^ 64 → decimal m ≡ decimal n → m ≡ n
written_once m n low small e =
    sym (decimal_is_IsNumeral m low).1 ∙ ap (λ ds. digits_value 10 ds) e ∙ (decimal_is_IsNumeral n small).1

-- a word is no number
no_number : (n : ℕ) → n < 2 ^ 64 → decimal n ≡ codes "end" → ⊥
no_number n small e =
    let numeral = (decimal_is_IsNumeral n small).0 in
    let some : 0 < length (decimal n) = rw e (omega arith) in
    let digit = digit_at (decimal n) 0 numeral.1 some in
    let first : get_or (decimal n) 0 0 ≡ 101 = rw e refl in
    omega (arith, first, digit.0, digit.1)

abbrev line_of : RecordLine → List ℕ
line_of l = decimal l.place ++ 32 ∷ l.step.now

-- a line stands before its LF
parted_line : (file : ℕ) (l : RecordLine) (rest : List ℕ) → IsLineOf file l → PartedAt 10 (written l ++ rest) (line_of l) rest
parted_line file l rest is = record {
  whole = append_assoc (decimal l.place) (32 ∷ (l.step.now ++ 10 ∷ [])) rest
      ∙ ap (λ t. decimal l.place ++ 32 ∷ t) (append_assoc l.step.now (10 ∷ []) rest)
      ∙ sym (append_assoc (decimal l.place) (32 ∷ l.step.now) (10 ∷ rest));
  first = lacks-append 10 (decimal l.place) (32 ∷ l.step.now) (lacks_digits 10 l.place (omega arith) is.1) is.2;
}

placed_line : (file : ℕ) (l : RecordLine) → IsLineOf file l → HasPlace (line_of l) l.place l.step.now
placed_line file l is = (
  decimal l.place,
  record { whole = refl; first = lacks_digits 32 l.place (omega arith) is.1 },
  (refl, is.1),
)

-- one line of two texts that are the same
same_line : {xs ys line front r s : List ℕ} → PartedAt 10 xs line r → PartedAt 10 ys front s → xs ≡ ys → (line ≡ front) × (r ≡ s)
same_line {xs} {ys} {line} {front} one two e = parted_once 10 line front one.first two.first (sym one.whole ∙ e ∙ two.whole)

same_place : (file : ℕ) (a b : RecordLine) → IsLineOf file a → IsLineOf file b → line_of a ≡ line_of b → a.place ≡ b.place
same_place file a b is_a is_b e =
    let parts = parted_once 32 (decimal a.place) (decimal b.place) (lacks_digits 32 a.place (omega arith) is_a.1)
    (lacks_digits 32 b.place (omega arith) is_b.1) e in
    written_once a.place b.place is_a.1 is_b.1 parts.0

no_end : (file : ℕ) (l : RecordLine) (why : List ℕ) → IsLineOf file l → line_of l ≡ codes "end " ++ why → ⊥
no_end file l why is e =
    let parts = parted_once 32 (decimal l.place) (codes "end") (lacks_digits 32 l.place (omega arith) is.1) refl e in
    no_number l.place is.1 parts.0

-- what is behind all lines begins with no line of them
over_none : (rest line behind : List ℕ) (why : Option (List ℕ)) → PartedAt 10 rest line behind → IsOver rest why
    → ((cause : List ℕ) → behind ≡ [] → line ≢ codes "end " ++ cause) → ⊥
over_none rest line behind None parts over no_cause = never_parted 10 rest line behind over parts.whole
over_none rest line behind (Some why) parts over no_cause =
    let same = same_line parts over refl in
    no_cause why same.1 same.0

-- The lines so far are the first of those that a file has, and its next line would be the next of the text
none_next : (file least : ℕ) (here lines : List RecordLine) (place : ℕ) (rest line behind r : List ℕ) (why : Option (List ℕ))
    → AllByRecursion (IsLineOf file) here → AllByRecursion (IsLineOf file) lines
    → ((d : RecordLine) → 0 < length lines → place ≤ (get_or lines 0 d).place)
    → IsNonDecreasingBy (λ (l : RecordLine). l.place) lines → last_place place here ≡ least
    → PartedAt 10 rest line behind → IsOver r why
    → flat_map written here ++ rest ≡ flat_map written lines ++ r
    → ((cause : List ℕ) → behind ≡ [] → line ≢ codes "end " ++ cause)
    → ((n : ℕ) (step : List ℕ) → HasPlace line n step → n < least) → ⊥
none_next file least [] [] place rest line behind r why each all first up last parts over e no_cause below =
    over_none rest line behind why parts (subst (λ t. IsOver t why) (sym e) over) no_cause
none_next file least [] (l ∷ lines) place rest line behind r why each all first up last parts over e no_cause below =
    let next = parted_line file l (flat_map written lines ++ r) all.0 in
    let same = same_line parts next (e ∙ append_assoc (written l) (flat_map written lines) r) in
    let low = below l.place l.step.now (subst (λ t. HasPlace t l.place l.step.now) (sym same.0) (placed_line file l all.0)) in
    let high = first l (omega arith) in
    omega (arith, low, high, last)
none_next file least (h ∷ here) [] place rest line behind r why each all first up last parts over e no_cause below =
    let next = parted_line file h (flat_map written here ++ rest) each.0 in
    over_none r (line_of h) (flat_map written here ++ rest) why
    (subst (λ t. PartedAt 10 t (line_of h) (flat_map written here ++ rest)) (sym (append_assoc (written h) (flat_map written here) rest) ∙ e) next)
    over (λ cause _ is. no_end file h cause each.0 is)
none_next file least (h ∷ here) (l ∷ lines) place rest line behind r why each all first up last parts over e no_cause below =
    let same = same_line (parted_line file h (flat_map written here ++ rest) each.0) (parted_line file l (flat_map written lines ++ r) all.0)
    (sym (append_assoc (written h) (flat_map written here) rest) ∙ e ∙ append_assoc (written l) (flat_map written lines) r) in
    let at : h.place ≡ l.place = same_place file h l each.0 all.0 same.0 in
    none_next file least here lines h.place rest line behind r why each.1 all.1
    (λ d some. let next = up 0 1 d (omega arith) (omega (arith, some)) in omega (arith, next, at))
    (IsNonDecreasingBy-drop (λ (l : RecordLine). l.place) 1 (l ∷ lines) up) last parts over same.1 no_cause below

pub no_file : (file : ℕ) (text : List ℕ) (here : List RecordLine) (number least : ℕ) (rest line behind : List ℕ)
    → SoFar file text here number least rest → PartedAt 10 rest line behind
    → ((cause : List ℕ) → behind ≡ [] → line ≢ codes "end " ++ cause)
    → ((n : ℕ) (step : List ℕ) → HasPlace line n step → n < least) → IsNoFile file text
no_file file text here number least rest line behind so parts no_cause below of is =
    none_next file least here of.lines 0 rest line behind is.rest of.why so.each is.each (λ d some. omega arith) is.rises (sym so.last) parts is.over
    (sym so.whole ∙ is.whole) no_cause below
