-- A text is written in one way alone.
use Rattle.std.proofs.Common.{◌≡◌, ℕ, ◌+◌, ◌*◌, ◌<◌, List, [], ◌∷◌, ◌++◌, Option, Some, None, IsSomeAnd, refl, sym, ap, ◌∙◌, subst, arith, append_assoc}
use Rattle.std.specs.Char.{digit_value}
use Rattle.std.specs.Borrow.{Bor}
use Rattle.record_lines.specs.Escapes.{Written, plain, line_feed, tab, carriage_return, backslash, hexadecimal, BeginsWritten, StandsForBytes}

pub record HexadecimalParts (high low byte : ℕ) (rest behind : List ℕ) : Type 0 where
  pub high_small : digit_value high < 16
  pub low_small : digit_value low < 16
  pub value : byte ≡ 16 * digit_value high + digit_value low
  pub behind_is : rest ≡ behind

abbrev second : List ℕ → ℕ
second [] = 0
second (x ∷ []) = 0
second (x ∷ y ∷ xs) = y

not_the_letter : {x y : ℕ} → x ≡ y → y < x → ⊥
not_the_letter e h = omega (arith, e, h)

hexadecimal_once : {byte : ℕ} {front : List ℕ} (high low : ℕ) (rest behind : List ℕ) → Written byte front → 92 ∷ 120 ∷ high ∷ low ∷ rest ≡ front ++ behind → HexadecimalParts high low byte rest behind
hexadecimal_once high low rest behind (plain ne) e = absurd (ne cc)
hexadecimal_once high low rest behind line_feed e = absurd (not_the_letter (ap second e) (omega arith))
hexadecimal_once high low rest behind tab e = absurd (not_the_letter (ap second e) (omega arith))
hexadecimal_once high low rest behind carriage_return e = absurd (not_the_letter (ap second e) (omega arith))
hexadecimal_once high low rest behind backslash e = absurd (not_the_letter (ap second e) (omega arith))
hexadecimal_once high low rest behind (hexadecimal {high = h} {low = l} p q) e =
    let first : h ≡ high = cc in
    let second : l ≡ low = cc in
    record {
      high_small = subst (λ d. digit_value d < 16) first p;
      low_small = subst (λ d. digit_value d < 16) second q;
      value = ap (λ d. 16 * digit_value d + digit_value l) first ∙ ap (λ d. 16 * digit_value high + digit_value d) second;
      behind_is = cc;
    }

pub hexadecimal_parts : (text rest behind : List ℕ) (high low byte : ℕ) → text ≡ high ∷ low ∷ rest → BeginsWritten (92 ∷ 120 ∷ text) byte behind → HexadecimalParts high low byte rest behind
hexadecimal_parts text rest behind high low byte is begins = hexadecimal_once high low rest behind begins.1 (ap (λ l. 92 ∷ 120 ∷ l) (sym is) ∙ begins.2)

-- nothing is written by no bytes
pub front_of_nothing : {byte : ℕ} {front : List ℕ} (behind : List ℕ) → Written byte front → [] ≡ front ++ behind → ⊥
front_of_nothing behind (plain ne) e = cc
front_of_nothing behind line_feed e = cc
front_of_nothing behind tab e = cc
front_of_nothing behind carriage_return e = cc
front_of_nothing behind backslash e = cc
front_of_nothing behind (hexadecimal p q) e = cc

pub nothing_written : (bytes : List ℕ) → StandsForBytes [] bytes → bytes ≡ []
nothing_written [] h = refl
nothing_written (b ∷ bytes) h = absurd (front_of_nothing h.0 h.1.1 h.1.2)

-- one byte more, with those before it
pub one_more : (text rest behind : List ℕ) (so_far : List ℕ) (byte : ℕ) → BeginsWritten rest byte behind → ((more : List ℕ) → StandsForBytes rest more → StandsForBytes text (so_far ++ more)) → (more : List ℕ) → StandsForBytes behind more
    → StandsForBytes text ((so_far ++ byte ∷ []) ++ more)
one_more text rest behind so_far byte begins sound more stands = subst (StandsForBytes text) (sym (append_assoc so_far (byte ∷ []) more)) (sound (byte ∷ more) (behind, begins, stands))

module _ (rest : List ℕ) (answer : Option (ℕ × Bor (List ℕ))) (complete : (byte : ℕ) (behind : List ℕ) → BeginsWritten rest byte behind → IsSomeAnd answer (λ parts. (parts.0 ≡ byte) × (parts.1.now ≡ behind))) where
  -- where a byte was found, the bytes begin with it
  pub begins_with_it : (byte : ℕ) (behind : Bor (List ℕ)) → answer ≡ Some (byte, behind) → BeginsWritten rest byte behind.now → (more : List ℕ) → StandsForBytes rest more → (others : List ℕ) × StandsForBytes behind.now others × (more ≡ byte ∷ others)
  begins_with_it byte behind is begins [] h = absurd (front_of_nothing behind.now begins.1 (sym h ∙ begins.2))
  begins_with_it byte behind is begins (b ∷ others) h =
      let found = subst (λ (o : Option (ℕ × Bor (List ℕ))). IsSomeAnd o (λ parts. (parts.0 ≡ b) × (parts.1.now ≡ h.0))) is (complete b h.0 h.1) in
      (others, subst (λ l. StandsForBytes l others) (sym found.1) h.2, ap (λ x. x ∷ others) (sym found.0))

  -- where none was found, nothing is left or no bytes are
  pub none_begins : answer ≡ None → (more : List ℕ) → StandsForBytes rest more → (rest ≡ []) × (more ≡ [])
  none_begins is [] h = (h, refl)
  none_begins is (b ∷ others) h = absurd (subst (λ (o : Option (ℕ × Bor (List ℕ))). IsSomeAnd o (λ parts. (parts.0 ≡ b) × (parts.1.now ≡ h.0))) is (complete b h.0 h.1))
