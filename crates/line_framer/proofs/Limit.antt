-- Where bytes are cut: up to lines that fit, at a line that is too long, at an end without a further LF.
use Rattle.std.proofs.Common.{◌≡◌, ℕ, ◌+◌, ◌<◌, ◌≤◌, List, [], ◌∷◌, ◌++◌, length, take, drop, refl, sym, ap, subst, ◌∙◌, Bool, true, false, T, arith, append_assoc, append-nil, length-take, length-append}
use Rattle.std.specs.Prelude.{map, ◌==◌, if◌then◌else◌, not, ◌||◌, nat_le}
use Rattle.std.specs.List.{list_any, AllByRecursion}
use Rattle.std.proofs.lemmas.List.{take-append-drop}
use Rattle.line_framer.specs.Frames.{without_cr, with_ends, Parts, parts, with_byte, lines_in, rest_of, sound_lines, is_spoilt, fits}
use Rattle.line_framer.specs.Buffered.{HasNoEnd}
use Rattle.line_framer.specs.Laws.{IsPlainLine, ComesOut}
use Rattle.line_framer.proofs.Parts.{behind, parts-append, onto, parts_onto, parts_none, joined, with_ends-append}
use Rattle.std.proofs.lemmas.Bool.{or_parts, le-leb}

lt-leb : (a b : ℕ) → b < a → nat_le a b ≡ false
lt-leb a b h = grind (arith)

abbrev pub any_long : ℕ → List (List ℕ) → Bool
any_long limit ls = list_any (λ part. not (fits limit part)) ls

abbrev pub spoilt_in : ℕ → Parts → Bool
spoilt_in limit q = any_long limit q.0 || not (fits limit q.1)

-- behind lines that fit, the lines of more bytes are looked at
pub sound-append : (limit : ℕ) (ls more : List (List ℕ)) → any_long limit ls ≡ false → sound_lines limit (ls ++ more) ≡ ls ++ sound_lines limit more
sound-append limit [] more = λ h. refl
sound-append limit (l ∷ ls) more =
    elim (fits limit l) as (λ b. (not b || any_long limit ls) ≡ false → (if b then l ∷ sound_lines limit (ls ++ more) else []) ≡ l ∷ (ls ++ sound_lines limit more)) [
      | true ↦ λ h. ap (λ xs. l ∷ xs) (sound-append limit ls more h)
      | false ↦ λ h. absurd (subst T h tt)
    ]

pub long-append : (limit : ℕ) (ls more : List (List ℕ)) → any_long limit ls ≡ false → any_long limit (ls ++ more) ≡ any_long limit more
long-append limit [] more = λ h. refl
long-append limit (l ∷ ls) more =
    elim (fits limit l) as (λ b. (not b || any_long limit ls) ≡ false → (not b || any_long limit (ls ++ more)) ≡ any_long limit more) [
      | true ↦ λ h. long-append limit ls more h
      | false ↦ λ h. absurd (subst T h tt)
    ]

-- behind a line that is too long nothing is looked at
pub sound-behind : (limit : ℕ) (ls more : List (List ℕ)) → any_long limit ls ≡ true → sound_lines limit (ls ++ more) ≡ sound_lines limit ls
sound-behind limit [] more = λ h. absurd (subst T (sym h) tt)
sound-behind limit (l ∷ ls) more =
    elim (fits limit l) as (λ b. (not b || any_long limit ls) ≡ true → (if b then l ∷ sound_lines limit (ls ++ more) else []) ≡ (if b then l ∷ sound_lines limit ls else [])) [
      | true ↦ λ h. ap (λ xs. l ∷ xs) (sound-behind limit ls more h)
      | false ↦ λ h. refl
    ]

pub long-behind : (limit : ℕ) (ls more : List (List ℕ)) → any_long limit ls ≡ true → any_long limit (ls ++ more) ≡ true
long-behind limit [] more = λ h. absurd (subst T (sym h) tt)
long-behind limit (l ∷ ls) more =
    elim (fits limit l) as (λ b. (not b || any_long limit ls) ≡ true → (not b || any_long limit (ls ++ more)) ≡ true) [
      | true ↦ λ h. long-behind limit ls more h
      | false ↦ λ h. refl
    ]

pub all_sound : (limit : ℕ) (ls : List (List ℕ)) → any_long limit ls ≡ false → sound_lines limit ls ≡ ls
all_sound limit [] = λ h. refl
all_sound limit (l ∷ ls) =
    elim (fits limit l) as (λ b. (not b || any_long limit ls) ≡ false → (if b then l ∷ sound_lines limit ls else []) ≡ l ∷ ls) [
      | true ↦ λ h. ap (λ xs. l ∷ xs) (all_sound limit ls h)
      | false ↦ λ h. absurd (subst T h tt)
    ]

-- lines fit that take few bytes in all
short_lines : (limit : ℕ) (ls : List (List ℕ)) → length (with_ends ls) ≤ limit + 1 → any_long limit ls ≡ false
short_lines limit [] h = refl
short_lines limit (l ∷ ls) h =
    let size : length ((l ++ 10 ∷ []) ++ with_ends ls) ≡ length l + 1 + length (with_ends ls) = length-append (l ++ 10 ∷ []) (with_ends ls) ∙ ap (λ n. n + length (with_ends ls)) (length-append l (10 ∷ [])) in
    ap (λ b. not b || any_long limit ls) (le-leb (length l) limit (omega arith)) ∙ short_lines limit ls (omega arith)

-- bytes that begin with m bytes of whole lines, none of them too long
module _ (t : List ℕ) (m limit : ℕ) (few : m ≤ limit + 1) (ends : rest_of (take m t) ≡ []) where
  two_parts : parts t ≡ behind (lines_in (take m t)) (parts (drop m t))
  two_parts = ap parts (sym (take-append-drop m t)) ∙ parts-append (take m t) (drop m t) ∙ ap (λ r. behind (lines_in (take m t)) (parts (r ++ drop m t))) ends

  all_lines : with_ends (lines_in (take m t)) ≡ take m t
  all_lines = sym (append-nil (with_ends (lines_in (take m t)))) ∙ ap (λ r. with_ends (lines_in (take m t)) ++ r) (sym ends) ∙ joined (take m t)

  none_long : any_long limit (lines_in (take m t)) ≡ false
  none_long = short_lines limit (lines_in (take m t)) (omega (arith, ap length all_lines, length-take m t))

  pub spoilt_behind : is_spoilt t limit ≡ is_spoilt (drop m t) limit
  spoilt_behind = ap (spoilt_in limit) two_parts ∙ ap (λ b. b || not (fits limit (rest_of (drop m t)))) (long-append limit (lines_in (take m t)) (lines_in (drop m t)) none_long)

  pub lines_behind : with_ends (sound_lines limit (lines_in t)) ≡ take m t ++ with_ends (sound_lines limit (lines_in (drop m t)))
  lines_behind =
      ap (λ (q : Parts). with_ends (sound_lines limit q.0)) two_parts
      ∙ ap with_ends (sound-append limit (lines_in (take m t)) (lines_in (drop m t)) none_long)
      ∙ with_ends-append (lines_in (take m t)) (sound_lines limit (lines_in (drop m t)))
      ∙ ap (λ xs. xs ++ with_ends (sound_lines limit (lines_in (drop m t)))) all_lines

  pub rest_behind : rest_of t ≡ rest_of (drop m t)
  rest_behind = ap (λ (q : Parts). q.1) two_parts

long_first : (limit : ℕ) (v : List ℕ) (q : Parts) → limit < length v → (spoilt_in limit (onto v q) ≡ true) × (sound_lines limit (onto v q).0 ≡ [])
long_first limit v ([], rest) h = (ap not (lt-leb (length (v ++ rest)) limit (omega (arith, length-append v rest))), refl)
long_first limit v (q ∷ qs, rest) h =
    let e : fits limit (v ++ q) ≡ false = lt-leb (length (v ++ q)) limit (omega (arith, length-append v q)) in
    (ap (λ b. (not b || any_long limit qs) || not (fits limit rest)) e, ap (λ b. if b then (v ++ q) ∷ sound_lines limit qs else []) e)

-- a line that is too long, whether it ends or not, spoils the bytes at their begin
pub too_long : (v w : List ℕ) (limit : ℕ) → limit < length v → HasNoEnd v → (is_spoilt (v ++ w) limit ≡ true) × (sound_lines limit (lines_in (v ++ w)) ≡ [])
too_long v w limit h none =
    let e = parts_onto v w none in
    let r = long_first limit v (parts w) h in
    (ap (spoilt_in limit) e ∙ r.0, ap (λ (q : Parts). sound_lines limit q.0) e ∙ r.1)

-- bytes without an LF that fit
pub short_rest : (v : List ℕ) (limit : ℕ) → length v ≤ limit → HasNoEnd v → is_spoilt v limit ≡ false
short_rest v limit h none = ap (spoilt_in limit) (parts_none v none) ∙ ap not (le-leb (length v) limit h)

-- Lines that come out of bytes have no LF, and stand for themselves

abbrev NoLf : List ℕ → Type 0
NoLf p = list_any (λ b. b == 10) p ≡ false

no_lf_with_byte : (x : ℕ) (q : Parts) → (x == 10) ≡ false → AllByRecursion NoLf q.0 → AllByRecursion NoLf (with_byte x q).0
no_lf_with_byte x ([], rest) e h = tt
no_lf_with_byte x (p ∷ ps, rest) e h = (ap (λ b. b || list_any (λ b. b == 10) p) e ∙ h.0, h.1)

lines_no_lf : (b : List ℕ) → AllByRecursion NoLf (lines_in b)
lines_no_lf [] = tt
lines_no_lf (x ∷ xs) =
    elim (x == 10) as (λ t. (x == 10) ≡ t → AllByRecursion NoLf (if t then ([] ∷ (parts xs).0, (parts xs).1) else with_byte x (parts xs)).0) [
      | true ↦ λ e. (refl, lines_no_lf xs)
      | false ↦ λ e. no_lf_with_byte x (parts xs) e (lines_no_lf xs)
    ] refl

parts_line : (p t : List ℕ) → NoLf p → parts (p ++ 10 ∷ t) ≡ (p ∷ lines_in t, rest_of t)
parts_line [] t h = refl
parts_line (x ∷ p) t h =
    ap (λ b. if b then ([] ∷ (parts (p ++ 10 ∷ t)).0, (parts (p ++ 10 ∷ t)).1) else with_byte x (parts (p ++ 10 ∷ t))) (or_parts (x == 10) _ h).0
    ∙ ap (with_byte x) (parts_line p t (or_parts (x == 10) _ h).1)

parts-with_ends : (ls : List (List ℕ)) → AllByRecursion NoLf ls → parts (with_ends ls) ≡ (ls, [])
parts-with_ends [] h = refl
parts-with_ends (l ∷ ls) h =
    ap parts (append_assoc l (10 ∷ []) (with_ends ls)) ∙ parts_line l (with_ends ls) h.0 ∙ ap (λ (q : Parts). (l ∷ q.0, q.1)) (parts-with_ends ls h.1)

sound_no_lf : (limit : ℕ) (ls : List (List ℕ)) → AllByRecursion NoLf ls → AllByRecursion NoLf (sound_lines limit ls)
sound_no_lf limit [] h = tt
sound_no_lf limit (l ∷ ls) h = elim (fits limit l) as (λ b. AllByRecursion NoLf (if b then l ∷ sound_lines limit ls else [])) [ true ↦ (h.0, sound_no_lf limit ls h.1) | false ↦ tt ]

sound_none_long : (limit : ℕ) (ls : List (List ℕ)) → any_long limit (sound_lines limit ls) ≡ false
sound_none_long limit [] = refl
sound_none_long limit (l ∷ ls) =
    elim (fits limit l) as (λ b. fits limit l ≡ b → any_long limit (if b then l ∷ sound_lines limit ls else []) ≡ false) [
      | true ↦ λ e. ap (λ b. not b || any_long limit (sound_lines limit ls)) e ∙ sound_none_long limit ls
      | false ↦ λ e. refl
    ] refl

pub parts_of_sound : (limit : ℕ) (b : List ℕ) → parts (with_ends (sound_lines limit (lines_in b))) ≡ (sound_lines limit (lines_in b), [])
parts_of_sound limit b = parts-with_ends _ (sound_no_lf limit (lines_in b) (lines_no_lf b))

-- what is kept at a spoilt place is not spoilt itself
pub sound_is_sound : (limit : ℕ) (b : List ℕ) → is_spoilt (with_ends (sound_lines limit (lines_in b))) limit ≡ false
sound_is_sound limit b =
    ap (spoilt_in limit) (parts_of_sound limit b)
    ∙ ap (λ t. t || not (fits limit [])) (sound_none_long limit (lines_in b)) ∙ ap not (le-leb 0 limit (omega arith))

-- plain lines with their ends

plain_no_lf : (limit : ℕ) (ls : List (List ℕ)) → AllByRecursion (IsPlainLine limit) ls → AllByRecursion NoLf ls
plain_no_lf limit [] h = tt
plain_no_lf limit (l ∷ ls) h = (h.0.no_end, plain_no_lf limit ls h.1)

plain_fit : (limit : ℕ) (ls : List (List ℕ)) → AllByRecursion (IsPlainLine limit) ls → any_long limit ls ≡ false
plain_fit limit [] h = refl
plain_fit limit (l ∷ ls) h = ap (λ b. not b || any_long limit ls) (le-leb (length l) limit h.0.fits) ∙ plain_fit limit ls h.1

plain_stay : (limit : ℕ) (ls : List (List ℕ)) → AllByRecursion (IsPlainLine limit) ls → map without_cr ls ≡ ls
plain_stay limit [] h = refl
plain_stay limit (l ∷ ls) h = ap (λ x. x ∷ map without_cr ls) h.0.no_cr ∙ ap (λ xs. l ∷ xs) (plain_stay limit ls h.1)

pub plain_come_out : (lines : List (List ℕ)) (limit : ℕ) → AllByRecursion (IsPlainLine limit) lines → ComesOut lines limit
plain_come_out lines limit h =
    let e = parts-with_ends lines (plain_no_lf limit lines h) in
    let fit = plain_fit limit lines h in
    record {
      frames_are = ap (λ (q : Parts). map without_cr (sound_lines limit q.0)) e ∙ ap (map without_cr) (all_sound limit lines fit) ∙ plain_stay limit lines h;
      spoilt_is = ap (spoilt_in limit) e ∙ ap (λ t. t || not (fits limit [])) fit ∙ ap not (le-leb 0 limit (omega arith));
      rest_is = ap (λ (q : Parts). q.1) e;
    }
