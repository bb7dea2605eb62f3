-- What a framer's buffer holds: the next line, and what is left without it.
use Rattle.std.proofs.Common.{◌≡◌, ◌≢◌, ℕ, ◌+◌, ◌-◌, ◌<◌, ◌≤◌, List, [], ◌∷◌, length, get_or, take, drop, refl, sym, ap, subst, ◌∙◌, Bool, true, false, T, arith, length-take, length-drop}
use Rattle.std.specs.Prelude.{not, ◌==◌, if◌then◌else◌, ◌||◌, nat_le, map, Option, None, Some, IsSome}
use Rattle.std.proofs.lemmas.List.{drop-drop, get_or-take, get_or-drop}
use Rattle.line_framer.specs.Frames.{Parts, lines_in, rest_of, fits, without_cr}
use Rattle.line_framer.specs.Framed.{first}
use Rattle.line_framer.specs.Buffered.{HasNoEnd, FirstEndAt, IsFirstEnd, IsBuffered}
use Rattle.line_framer.proofs.Parts.{parts_none, parts_first, rest_has_no_end}
use Rattle.line_framer.proofs.Limit.{any_long, spoilt_in}
use Rattle.std.proofs.lemmas.Bool.{or_parts}

or-false : (a b c : Bool) → ((a || b) || c) ≡ false → (b || c) ≡ false
or-false true b c h = absurd (subst T h tt)
or-false false b c h = h

-- nothing behind the whole lines is an LF
pub none_behind_whole : (a : List ℕ) (whole : ℕ) → rest_of a ≡ drop whole a → (k : ℕ) → whole ≤ k → k < length a → get_or a k 0 ≢ 10
none_behind_whole a whole rest k low lt is =
    let none : HasNoEnd (drop whole a) = subst HasNoEnd rest (rest_has_no_end a) in
    let same : whole + (k - whole) ≡ k = omega arith in
    none (k - whole) (omega (arith, length-drop whole a)) (get_or-drop whole a (k - whole) 0 ∙ ap (λ i. get_or a i 0) same ∙ is)

pub lines_of_none : (a : List ℕ) → HasNoEnd a → map without_cr (lines_in a) ≡ []
lines_of_none a none = ap (λ (q : Parts). map without_cr q.0) (parts_none a none)

pub first_of_none : (a : List ℕ) → HasNoEnd a → first (map without_cr (lines_in a)) ≡ None
first_of_none a none = ap first (lines_of_none a none)

pub some_next : (a : List ℕ) (next : Option ℕ) → IsFirstEnd a next → IsSome (first (map without_cr (lines_in a))) → IsSome next
some_next a None none h = subst IsSome (first_of_none a none) h
some_next a (Some n) e h = refl

-- a search of the whole lines alone finds the first LF of all
pub widened : (a : List ℕ) (whole : ℕ) → rest_of a ≡ drop whole a → (next : Option ℕ) → IsFirstEnd (take whole a) next → IsFirstEnd a next
widened a whole rest None none = λ k lt is.
    elim (nat_le whole k) as (λ t. nat_le whole k ≡ t → ⊥) [
      | true ↦ λ e. none_behind_whole a whole rest k (grind (arith)) lt is
      | false ↦ λ e. none k (grind (arith, length-take)) (get_or-take whole a k 0 (grind (arith)) ∙ is)
    ] refl
widened a whole rest (Some n) e =
    let in_whole : n < whole = omega (arith, e.within, length-take whole a) in
    record {
      within = omega (arith, e.within, length-take whole a);
      is_end = sym (get_or-take whole a n 0 in_whole) ∙ e.is_end;
      before = λ k lt is. e.before k lt (get_or-take whole a k 0 (omega arith) ∙ is);
    }

pub without_cr_shorter : (line : List ℕ) → length (without_cr line) ≤ length line
without_cr_shorter [] = omega arith
without_cr_shorter (x ∷ []) = elim (x == 13) as (λ t. length (if t then [] else x ∷ []) ≤ 1) [ true ↦ omega arith | false ↦ omega arith ]
without_cr_shorter (x ∷ y ∷ line) = omega (arith, without_cr_shorter (y ∷ line))

-- the next line of a buffer that has one
module _ {a : List ℕ} {next : Option ℕ} {n whole limit : ℕ} (is : next ≡ Some n) (b : IsBuffered a next whole limit) where
  ends : FirstEndAt a n
  ends = subst (IsFirstEnd a) is b.next_end

  pub first_is_whole : n + 1 ≤ whole
  first_is_whole =
      elim (nat_le whole n) as (λ t. nat_le whole n ≡ t → n + 1 ≤ whole) [
        | true ↦ λ e. absurd (none_behind_whole a whole b.rest n (grind (arith)) ends.within ends.is_end)
        | false ↦ λ e. grind (arith)
      ] refl

  pub lines_first : lines_in a ≡ take n a ∷ lines_in (drop (n + 1) a)
  lines_first = ap (λ (q : Parts). q.0) (parts_first a n ends)

  pub rest_first : rest_of a ≡ rest_of (drop (n + 1) a)
  rest_first = ap (λ (q : Parts). q.1) (parts_first a n ends)

  pub left : {later : Option ℕ} → IsFirstEnd (take (whole - (n + 1)) (drop (n + 1) a)) later → IsBuffered (drop (n + 1) a) later (whole - (n + 1)) limit
  left {later} found =
      let l = drop (n + 1) a in
      let w = whole - (n + 1) in
      let same : n + 1 + w ≡ whole = omega (arith, first_is_whole) in
      let rest : rest_of l ≡ drop w l = sym rest_first ∙ b.rest ∙ ap (λ i. drop i a) (sym same) ∙ sym (drop-drop w (n + 1) a) in
      record {
        within = omega (arith, b.within, length-drop (n + 1) a);
        rest = rest;
        next_end = widened l w rest later found;
        sound = or-false (not (fits limit (take n a))) (any_long limit (lines_in l)) (not (fits limit (rest_of l))) (sym (ap (spoilt_in limit) (parts_first a n ends)) ∙ b.sound);
      }

  pub line_is_short : length (without_cr (take n a)) ≤ limit
  line_is_short =
      let e : ((not (fits limit (take n a)) || any_long limit (lines_in (drop (n + 1) a))) || not (fits limit (rest_of (drop (n + 1) a)))) ≡ false = sym (ap (spoilt_in limit) (parts_first a n ends)) ∙ b.sound in
      let fit : not (fits limit (take n a)) ≡ false = (or_parts _ _ (or_parts _ _ e).0).0 in
      let short : length (take n a) ≤ limit = grind (arith) in
      omega (arith, without_cr_shorter (take n a))

  pub first_is : first (map without_cr (lines_in a)) ≡ Some (without_cr (take n a))
  first_is = ap (λ (q : Parts). first (map without_cr q.0)) (parts_first a n ends)
