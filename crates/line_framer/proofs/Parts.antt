-- Laws of the parts of a list of bytes.
use Rattle.std.proofs.Common.{◌≡◌, ◌≢◌, ℕ, zero, suc, ◌+◌, ◌<◌, List, [], ◌∷◌, ◌++◌, length, get_or, take, drop, refl, sym, ap, subst, ◌∙◌, true, false, T, arith, append_assoc, add-one}
use Rattle.std.specs.Prelude.{◌==◌, if◌then◌else◌}
use Rattle.std.proofs.Math.Dec.{eqb→eq}
use Rattle.line_framer.specs.Frames.{with_ends, Parts, parts, with_byte, lines_in, rest_of}
use Rattle.line_framer.specs.Buffered.{HasNoEnd, FirstEndAt}

not_lf : (b : ℕ) → b ≢ 10 → (b == 10) ≡ false
not_lf b h = elim (b == 10) as (λ t. (b == 10) ≡ t → t ≡ false) [ true ↦ λ e. absurd (h (eqb→eq b 10 (subst T (sym e) tt))) | false ↦ λ e. refl ] refl

-- a byte that is no LF
parts_other : (b : ℕ) (bs : List ℕ) → b ≢ 10 → parts (b ∷ bs) ≡ with_byte b (parts bs)
parts_other b bs h = ap (λ t. if t then ([] ∷ (parts bs).0, (parts bs).1) else with_byte b (parts bs)) (not_lf b h)

pub parts_none : (xs : List ℕ) → HasNoEnd xs → parts xs ≡ ([], xs)
parts_none [] h = refl
parts_none (x ∷ xs) h = parts_other x xs (h 0 (omega arith)) ∙ ap (with_byte x) (parts_none xs (λ k lt. h (suc k) (omega arith)))

parts_at : (xs : List ℕ) (n : ℕ) → n < length xs → get_or xs n 0 ≡ 10 → ((k : ℕ) → k < n → get_or xs k 0 ≢ 10)
    → parts xs ≡ (take n xs ∷ lines_in (drop (suc n) xs), rest_of (drop (suc n) xs))
parts_at [] n lt is h = absurd (omega arith)
parts_at (x ∷ xs) zero lt is h = ap (λ y. parts (y ∷ xs)) is
parts_at (x ∷ xs) (suc n) lt is h = parts_other x xs (h 0 (omega arith)) ∙ ap (with_byte x) (parts_at xs n (omega arith) is (λ k l. h (suc k) (omega arith)))

-- the first line and what is behind it
pub parts_first : (xs : List ℕ) (n : ℕ) → FirstEndAt xs n → parts xs ≡ (take n xs ∷ lines_in (drop (n + 1) xs), rest_of (drop (n + 1) xs))
parts_first xs n h = rw add-one (parts_at xs n h.within h.is_end h.before)

-- what comes later goes on where the rest stands
abbrev pub behind : List (List ℕ) → Parts → Parts
behind ps q = (ps ++ q.0, q.1)

byte_behind : (x : ℕ) (ys : List ℕ) (q : Parts) → (x == 10) ≡ false → with_byte x (behind q.0 (parts (q.1 ++ ys))) ≡ behind (with_byte x q).0 (parts ((with_byte x q).1 ++ ys))
byte_behind x ys ([], rest) h = sym (ap (λ t. if t then ([] ∷ (parts (rest ++ ys)).0, (parts (rest ++ ys)).1) else with_byte x (parts (rest ++ ys))) h)
byte_behind x ys (p ∷ ps, rest) h = refl

-- the parts of two pieces: those of the first, and then those of its rest with the second
pub parts-append : (xs ys : List ℕ) → parts (xs ++ ys) ≡ behind (lines_in xs) (parts (rest_of xs ++ ys))
parts-append [] ys = refl
parts-append (x ∷ xs) ys =
    elim (x == 10) as (λ t. (x == 10) ≡ t → (if t then ([] ∷ (parts (xs ++ ys)).0, (parts (xs ++ ys)).1) else with_byte x (parts (xs ++ ys)))
    ≡ behind (if t then ([] ∷ (parts xs).0, (parts xs).1) else with_byte x (parts xs)).0 (parts ((if t then ([] ∷ (parts xs).0, (parts xs).1) else with_byte x (parts xs)).1 ++ ys))) [
      | true ↦ λ e. ap (λ (q : Parts). ([] ∷ q.0, q.1)) (parts-append xs ys)
      | false ↦ λ e. ap (with_byte x) (parts-append xs ys) ∙ byte_behind x ys (parts xs) e
    ] refl

-- bytes before the first part
abbrev pub onto : List ℕ → Parts → Parts
onto p ([], rest) = ([], p ++ rest)
onto p (q ∷ qs, rest) = ((p ++ q) ∷ qs, rest)

onto_nil : (q : Parts) → q ≡ onto [] q
onto_nil ([], rest) = refl
onto_nil (q ∷ qs, rest) = refl

onto_with_byte : (b : ℕ) (p : List ℕ) (q : Parts) → with_byte b (onto p q) ≡ onto (b ∷ p) q
onto_with_byte b p ([], rest) = refl
onto_with_byte b p (q ∷ qs, rest) = refl

-- bytes without an LF go before the first part
pub parts_onto : (xs ys : List ℕ) → HasNoEnd xs → parts (xs ++ ys) ≡ onto xs (parts ys)
parts_onto [] ys h = onto_nil (parts ys)
parts_onto (x ∷ xs) ys h =
    parts_other x (xs ++ ys) (h 0 (omega arith)) ∙ ap (with_byte x) (parts_onto xs ys (λ k lt. h (suc k) (omega arith))) ∙ onto_with_byte x xs (parts ys)

begins_no_line : (l : List ℕ) (ls : List (List ℕ)) → (l ∷ ls) ≡ [] → ⊥
begins_no_line l ls h = cc

same_tail : (x : ℕ) (xs ys : List ℕ) → (x ∷ xs) ≡ (x ∷ ys) → xs ≡ ys
same_tail x xs ys h = cc

without_byte : (x : ℕ) (xs : List ℕ) (q : Parts) → with_byte x q ≡ ([], x ∷ xs) → q ≡ ([], xs)
without_byte x xs ([], rest) h = ap (λ r. ([], r)) (same_tail x rest xs (ap (λ (q : Parts). q.1) h))
without_byte x xs (p ∷ ps, rest) h = absurd (begins_no_line (x ∷ p) ps (ap (λ (q : Parts). q.0) h))

at_place : (x : ℕ) (xs : List ℕ) → (x == 10) ≡ false → HasNoEnd xs → HasNoEnd (x ∷ xs)
at_place x xs e h zero lt = λ is. absurd (subst T (sym (ap (λ y. y == 10) is) ∙ e) tt)
at_place x xs e h (suc k) lt = h k (omega arith)

-- bytes that are all rest have no LF
pub no_end : (xs : List ℕ) → parts xs ≡ ([], xs) → HasNoEnd xs
no_end [] h k lt = absurd (omega arith)
no_end (x ∷ xs) h k lt =
    elim (x == 10) as (λ t. (x == 10) ≡ t → (if t then ([] ∷ (parts xs).0, (parts xs).1) else with_byte x (parts xs)) ≡ ([], x ∷ xs) → get_or (x ∷ xs) k 0 ≢ 10) [
      | true ↦ λ e same. absurd (begins_no_line [] (parts xs).0 (ap (λ (q : Parts). q.0) same))
      | false ↦ λ e same. at_place x xs e (no_end xs (without_byte x xs (parts xs) same)) k lt
    ] refl h

rest_has_byte : (x : ℕ) (q : Parts) → (x == 10) ≡ false → parts q.1 ≡ ([], q.1) → parts (with_byte x q).1 ≡ ([], (with_byte x q).1)
rest_has_byte x ([], rest) e h = ap (λ t. if t then ([] ∷ (parts rest).0, (parts rest).1) else with_byte x (parts rest)) e ∙ ap (with_byte x) h
rest_has_byte x (p ∷ ps, rest) e h = h

parts_rest : (xs : List ℕ) → parts (rest_of xs) ≡ ([], rest_of xs)
parts_rest [] = refl
parts_rest (x ∷ xs) =
    elim (x == 10) as (λ t. (x == 10) ≡ t → let q : Parts = if t then ([] ∷ (parts xs).0, (parts xs).1) else with_byte x (parts xs) in parts q.1 ≡ ([], q.1)) [
      | true ↦ λ e. parts_rest xs
      | false ↦ λ e. rest_has_byte x (parts xs) e (parts_rest xs)
    ] refl

pub rest_has_no_end : (xs : List ℕ) → HasNoEnd (rest_of xs)
rest_has_no_end xs = no_end (rest_of xs) (parts_rest xs)

joined_with_byte : (x : ℕ) (xs : List ℕ) (q : Parts) → with_ends q.0 ++ q.1 ≡ xs → with_ends (with_byte x q).0 ++ (with_byte x q).1 ≡ x ∷ xs
joined_with_byte x xs ([], rest) h = ap (λ ys. x ∷ ys) h
joined_with_byte x xs (p ∷ ps, rest) h = ap (λ ys. x ∷ ys) h

-- the parts with their ends, and then the rest, are all bytes
pub joined : (xs : List ℕ) → with_ends (lines_in xs) ++ rest_of xs ≡ xs
joined [] = refl
joined (x ∷ xs) =
    elim (x == 10) as (λ t. (x == 10) ≡ t → let q : Parts = if t then ([] ∷ (parts xs).0, (parts xs).1) else with_byte x (parts xs) in with_ends q.0 ++ q.1 ≡ x ∷ xs) [
      | true ↦ λ e. ap (λ ys. 10 ∷ ys) (joined xs) ∙ ap (λ y. y ∷ xs) (sym (eqb→eq x 10 (subst T (sym e) tt)))
      | false ↦ λ e. joined_with_byte x xs (parts xs) (joined xs)
    ] refl

-- nothing is left behind an LF
pub rest-end : (xs : List ℕ) → rest_of (xs ++ 10 ∷ []) ≡ []
rest-end xs =
    ap (λ (q : Parts). q.1) (parts-append xs (10 ∷ []) ∙ ap (behind (lines_in xs)) (parts_onto (rest_of xs) (10 ∷ []) (rest_has_no_end xs)))

pub with_ends-append : (xs ys : List (List ℕ)) → with_ends (xs ++ ys) ≡ with_ends xs ++ with_ends ys
with_ends-append [] ys = refl
with_ends-append (x ∷ xs) ys = ap (λ t. (x ++ 10 ∷ []) ++ t) (with_ends-append xs ys) ∙ sym (append_assoc (x ++ 10 ∷ []) (with_ends xs) (with_ends ys))
