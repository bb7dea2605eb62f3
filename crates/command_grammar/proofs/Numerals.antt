-- A word is one number, or none in the range.
use Rattle.std.proofs.Common.{◌≡◌, ℕ, List, [], ◌∷◌, length, refl, sym, ap, subst, Bool, true, false, cond, inl, inr, arith}
use Rattle.std.specs.Prelude.{ℤ, pos, neg_ℤ, ◌≤ℤ◌, int_lt, nat_le, ◌==◌, ◌&&◌, not, Option, Some, None, Result, Ok, Err, IfSome, IfNone}
use Rattle.std.specs.Option.{ok_or}
use Rattle.std.specs.List.{list_all}
use Rattle.std.proofs.lemmas.Bool.{eq-eqb, eqb-true, and_parts}
use Rattle.std.proofs.lemmas.Int.{ints}
use Rattle.line_words.specs.Bytes.{is_digit}
use Rattle.line_words.specs.Numbers.{IsNumeral, is_digits, value_of}
use Rattle.command_grammar.specs.declared.command.ReadFault.{ReadFault}
use Rattle.command_grammar.specs.declared.command.ReadFault.TheVariants as fault
use Rattle.command_grammar.specs.Readers.{numeral, is_between, if_between, number_in, seen}

-- digits do not begin with `-`
and_false : (s t : Bool) → (s && (false && t)) ≡ false
and_false true t = refl
and_false false t = refl

no_minus : (b : ℕ) (bs : List ℕ) → b ≡ 45 → is_digits (b ∷ bs) ≡ false
no_minus b bs e =
    subst (λ n. is_digits (n ∷ bs) ≡ false) (sym e) (and_false (nat_le 1 (length (45 ∷ bs)) && nat_le (length (45 ∷ bs)) 10) (list_all is_digit bs))

numeral_is : (w : List ℕ) (z : ℤ) → IsNumeral w z → numeral w ≡ Some z
numeral_is [] z h = absurd h
numeral_is (b ∷ bs) z (inl h) = rw h.0 (ap Some (sym h.1))
numeral_is (b ∷ bs) z (inr h) = rw (no_minus b bs h.0, eq-eqb b 45 h.0, h.1) (ap Some (sym h.2))

numeral_by : (b : ℕ) (bs : List ℕ) (s t : Bool) (z : ℤ) → is_digits (b ∷ bs) ≡ s → (b == 45 && is_digits bs) ≡ t
    → cond s (Some (pos (value_of (b ∷ bs)))) (cond t (Some (neg_ℤ (pos (value_of bs)))) None) ≡ Some z → IsNumeral (b ∷ bs) z
numeral_by b bs true t z d m e = inl (d, cc)
numeral_by b bs false true z d m e = let both = and_parts (b == 45) (is_digits bs) m in inr (eqb-true b 45 both.0, both.1, cc)
numeral_by b bs false false z d m e = absurd (let n : ⊥ = cc in n)

numeral_made : (w : List ℕ) (z : ℤ) → numeral w ≡ Some z → IsNumeral w z
numeral_made [] z e = absurd (let n : ⊥ = cc in n)
numeral_made (b ∷ bs) z e = numeral_by b bs (is_digits (b ∷ bs)) (b == 45 && is_digits bs) z refl refl e

pub one_numeral : (w : List ℕ) (y z : ℤ) → IsNumeral w y → IsNumeral w z → y ≡ z
one_numeral w y z a b = let e = numeral_is w y a in let f = numeral_is w z b in cc

between_test : (low high z : ℤ) → low ≤ℤ z → z ≤ℤ high → is_between low high z ≡ true
between_test low high z l h = grind (arith, ints)

not_under : (a b : ℤ) → not (int_lt a b) ≡ true → b ≤ℤ a
not_under a b e = grind (arith, ints)

test_between : (low high z : ℤ) → is_between low high z ≡ true → (low ≤ℤ z) × (z ≤ℤ high)
test_between low high z e = let both = and_parts (not (int_lt z low)) (not (int_lt high z)) e in (not_under z low both.0, not_under high z both.1)

-- the number in a word: it, or none in the range
abbrev pub NumberRead : ℤ → ℤ → List ℕ → Result ℤ ReadFault → Type 0
NumberRead low high w (Ok z) = IsNumeral w z × (low ≤ℤ z) × (z ≤ℤ high)
NumberRead low high w (Err f) = ((z : ℤ) → IsNumeral w z → low ≤ℤ z → z ≤ℤ high → ⊥) × (fault.BadNumber ≡ f)

number_read_in : (low high : ℤ) (w : List ℕ) (z : ℤ) (t : Bool) → numeral w ≡ Some z → is_between low high z ≡ t → NumberRead low high w (cond t (Ok z) (Err fault.BadNumber))
number_read_in low high w z true n is = let in_range = test_between low high z is in (numeral_made w z n, in_range.0, in_range.1)
number_read_in low high w z false n is = (
  λ y m l h.
      let same : z ≡ y = (let e = numeral_is w y m in cc) in
      let inside : is_between low high z ≡ true = subst (λ x. is_between low high x ≡ true) (sym same) (between_test low high y l h) in
      absurd (let q : ⊥ = cc in q),
  refl,
)

number_read_by : (low high : ℤ) (w : List ℕ) (o : Option ℤ) → numeral w ≡ o → NumberRead low high w (if_between low high o)
number_read_by low high w None n = (λ y m l h. let e = numeral_is w y m in absurd (let q : ⊥ = cc in q), refl)
number_read_by low high w (Some z) n = number_read_in low high w z (is_between low high z) n refl

pub number_read : (low high : ℤ) (w : List ℕ) → NumberRead low high w (number_in low high w)
unfolding number_in
number_read low high w = number_read_by low high w (numeral w) refl

pub number_is : (low high : ℤ) (w : List ℕ) (z : ℤ) → IsNumeral w z → low ≤ℤ z → z ≤ℤ high → number_in low high w ≡ Ok z
unfolding number_in
number_is low high w z n l h = rw (numeral_is w z n, between_test low high z l h) refl

none_read : (low high : ℤ) (w : List ℕ) (read : Result ℤ ReadFault) → NumberRead low high w read → ((z : ℤ) → IsNumeral w z → low ≤ℤ z → z ≤ℤ high → ⊥) → read ≡ Err fault.BadNumber
none_read low high w (Ok z) n none = absurd (none z n.0 n.1 n.2)
none_read low high w (Err f) n none = ap Err (sym n.1)

pub no_number : (low high : ℤ) (w : List ℕ) → ((z : ℤ) → IsNumeral w z → low ≤ℤ z → z ≤ℤ high → ⊥) → number_in low high w ≡ Err fault.BadNumber
no_number low high w none = none_read low high w (number_in low high w) (number_read low high w) none

-- what the number's reader returns is what reading gives
pub number_or : (low high : ℤ) (w : List ℕ) (o : Option ℤ) → IfSome o (λ z. IsNumeral w z × (low ≤ℤ z) × (z ≤ℤ high)) → IfNone o ((z : ℤ) → IsNumeral w z → low ≤ℤ z → z ≤ℤ high → ⊥)
    → number_in low high w ≡ seen (λ (z : ℤ). z) (ok_or o fault.BadNumber)
number_or low high w None some none = no_number low high w none
number_or low high w (Some z) some none = number_is low high w z some.0 some.1 some.2
