-- Where a line is cut: at the spaces round a word, in one way.
use Rattle.std.proofs.Common.{◌≡◌, ℕ, ◌<◌, List, [], ◌∷◌, ◌++◌, length, refl, sym, ap, subst, ◌∙◌, Bool, true, false, T, cond, arith}
use Rattle.std.specs.Prelude.{◌==◌, ◌&&◌, ◌||◌, not, IsTrue}
use Rattle.std.proofs.lemmas.Bool.{eq-eqb, ne_eqb}
use Rattle.line_words.specs.Bytes.{is_spaces, has_byte}
use Rattle.line_words.specs.Parts.{before, from}
use Rattle.line_words.specs.Words.{BeginsApart, EndsWord, NextWord, FirstWord, SkipsSpaces}
use Rattle.line_words.proofs.Splitting.{before-from, has_byte-before, from_ends}
use Rattle.command_grammar.specs.Readers.{without_spaces}

pub and_first : (a b : Bool) → IsTrue (a && b) → IsTrue a
and_first true b h = refl
and_first false b h = h

pub and_second : (a b : Bool) → IsTrue (a && b) → IsTrue b
and_second true b h = h
and_second false b h = absurd (subst T (sym h) tt)

pub nor_first : (a b : Bool) → IsTrue (not (a || b)) → a ≡ false
nor_first true b h = absurd (subst T (sym h) tt)
nor_first false b h = refl

pub nor_second : (a b : Bool) → IsTrue (not (a || b)) → IsTrue (not b)
nor_second true b h = absurd (subst T (sym h) tt)
nor_second false b h = h

-- Spaces at the front

pub skip_is : (gap text : List ℕ) → IsTrue (is_spaces gap) → BeginsApart text → without_spaces (gap ++ text) ≡ text
skip_is [] [] h a = refl
skip_is [] (x ∷ text) h a = rw (ne_eqb x 32 a) refl
skip_is (x ∷ gap) text h a = rw (and_first (x == 32) (is_spaces gap) h) (skip_is gap text (and_second (x == 32) (is_spaces gap) h) a)

skipped_by : (b : ℕ) (bs : List ℕ) (t : Bool) → (b == 32) ≡ t → SkipsSpaces bs (without_spaces bs) → SkipsSpaces (b ∷ bs) (cond t (without_spaces bs) (b ∷ bs))
skipped_by b bs true e s = record {
  gap = b ∷ s.gap;
  whole = ap (λ (r : List ℕ). b ∷ r) s.whole;
  spaces = rw e s.spaces;
  apart = s.apart;
}
skipped_by b bs false e s = record {
  gap = [];
  whole = refl;
  spaces = refl;
  apart = λ is. absurd (subst T (sym (eq-eqb b 32 is) ∙ e) tt);
}

pub skipped : (bs : List ℕ) → SkipsSpaces bs (without_spaces bs)
skipped [] = record { gap = []; whole = refl; spaces = refl; apart = tt }
skipped (b ∷ bs) = skipped_by b bs (b == 32) refl (skipped bs)

pub skipped_is : {bs text : List ℕ} → SkipsSpaces bs text → without_spaces bs ≡ text
skipped_is {bs} {text} s = ap without_spaces s.whole ∙ skip_is s.gap text s.spaces s.apart

pub skipped_to : (bs text : List ℕ) → SkipsSpaces bs text → text ≡ without_spaces bs
skipped_to bs text s = sym (skipped_is s)

-- Up to a space

-- the two parts of a list round its first space
pub record Parts (bs w r : List ℕ) : Type 0 where
  pub front : before 32 bs ≡ w
  pub back : from 32 bs ≡ r

pub parts_of : (w r : List ℕ) → IsTrue (not (has_byte 32 w)) → EndsWord r → Parts (w ++ r) w r
parts_of [] [] h e = record { front = refl; back = refl }
parts_of [] (x ∷ r) h e = record { front = rw (eq-eqb x 32 e) refl; back = rw (eq-eqb x 32 e) refl }
parts_of (x ∷ w) r h e =
    let other = nor_first (x == 32) (has_byte 32 w) h in
    let rest = parts_of w r (nor_second (x == 32) (has_byte 32 w) h) e in
    record { front = rw other (ap (λ (s : List ℕ). x ∷ s) rest.front); back = rw other rest.back }

-- the first word is where the readers look for it
pub first_word_is : {rest w r : List ℕ} → FirstWord rest w r → Parts (without_spaces rest) w r
first_word_is {rest} {w} {r} n =
    let p = parts_of w r n.no_space n.ends in
    let e : without_spaces rest ≡ w ++ r = ap without_spaces n.whole ∙ skip_is n.gap (w ++ r) n.spaces (begins w r n.some_byte n.no_space) in
    record { front = ap (before 32) e ∙ p.front; back = ap (from 32) e ∙ p.back }
  where
    begins : (w r : List ℕ) → 0 < length w → IsTrue (not (has_byte 32 w)) → BeginsApart (w ++ r)
    begins [] r h a = absurd (omega arith)
    begins (x ∷ w) r h a = λ is. subst T (sym (eq-eqb x 32 is) ∙ nor_first (x == 32) (has_byte 32 w) a) tt

pub next_word_is : {rest w r : List ℕ} → NextWord rest w r → Parts (without_spaces rest) w r
next_word_is n = first_word_is (record { gap = n.gap; whole = n.whole; spaces = n.spaces; no_space = n.no_space; some_byte = n.some_byte; ends = n.ends })

-- and where the readers find a word it is the next one
some_gap : (gap text rest : List ℕ) (b : ℕ) (bs : List ℕ) → rest ≡ gap ++ text → text ≡ b ∷ bs → BeginsApart text → EndsWord rest → 0 < length gap
some_gap [] text rest b bs whole is apart ends =
    let e : rest ≡ b ∷ bs = whole ∙ is in
    let space : b ≡ 32 = subst EndsWord e ends in
    absurd (subst BeginsApart is apart space)
some_gap (x ∷ gap) text rest b bs whole is apart ends = omega arith

pub next_word_made : (rest text : List ℕ) (b : ℕ) (bs r : List ℕ) → EndsWord rest → SkipsSpaces rest text → Parts text (b ∷ bs) r → NextWord rest (b ∷ bs) r
next_word_made rest text b bs r ends s p =
    let is : text ≡ b ∷ (bs ++ r) = before-from 32 text ∙ ap (λ (w : List ℕ). w ++ from 32 text) p.front ∙ ap (λ (t : List ℕ). b ∷ (bs ++ t)) p.back in
    record {
      gap = s.gap;
      whole = s.whole ∙ ap (λ (t : List ℕ). s.gap ++ t) is;
      spaces = s.spaces;
      some_space = some_gap s.gap text rest b (bs ++ r) s.whole is s.apart ends;
      no_space = ap not (ap (has_byte 32) (sym p.front) ∙ has_byte-before 32 text);
      some_byte = omega arith;
      ends = subst EndsWord p.back (from_ends 32 text);
    }

all_spaces : (gap : List ℕ) → IsTrue (is_spaces gap) → IsTrue (is_spaces (gap ++ []))
all_spaces [] h = refl
all_spaces (x ∷ gap) h = rw (and_first (x == 32) (is_spaces gap) h) (all_spaces gap (and_second (x == 32) (is_spaces gap) h))

pub no_word_left : (rest text r : List ℕ) → SkipsSpaces rest text → Parts text [] r → IsTrue (is_spaces rest)
no_word_left rest [] r s p = rw s.whole (all_spaces s.gap s.spaces)
no_word_left rest (x ∷ text) r s p = let e = rw (ne_eqb x 32 s.apart) at p.front in absurd (let n : ⊥ = cc in n)

-- only spaces are left exactly where there is no next word
pub spaces_skipped : (rest : List ℕ) → IsTrue (is_spaces rest) → without_spaces rest ≡ []
spaces_skipped [] h = refl
spaces_skipped (x ∷ rest) h = rw (and_first (x == 32) (is_spaces rest) h) (spaces_skipped rest (and_second (x == 32) (is_spaces rest) h))
