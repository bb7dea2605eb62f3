-- A printed number is a word, and its numeral.
use Rattle.std.proofs.Common.{◌≡◌, ℕ, suc, ◌^◌, ◌<◌, true, List, [], ◌∷◌, length, refl, sym, ap, subst, inl, inr, arith}
use Rattle.std.specs.Prelude.{ℤ, pos, negsuc, neg_ℤ, ◌≤ℤ◌, nat_le, decimal}
use Rattle.std.specs.Fmt.{signed_decimal}
use Rattle.std.specs.List.{list_all}
use Rattle.std.proofs.lemmas.Bool.{and_from, leb-true, le-leb}
use Rattle.std.proofs.lemmas.Fmt.{digits_decimal, decimal_nonempty}
use Rattle.std.proofs.lemmas.Int.{ints}
use Rattle.line_words.specs.Bytes.{is_word, is_word_byte}
use Rattle.line_words.specs.Kinds.{is_wide}
use Rattle.line_words.specs.Numbers.{IsNumeral, is_digits, value_of}
use Rattle.reply_kinds.proofs.Decimals.{own, digits_words, signed_words, is_digits_decimal, decimal_value}

pub decimal_word : (n : ℕ) → n < 10000000000 → is_word (decimal n) ≡ true
decimal_word n lt =
    let small : n < 2 ^ 64 = omega arith in
    and_from (nat_le 1 (length (decimal n))) (list_all is_word_byte (decimal n))
    (le-leb 1 (length (decimal n)) (decimal_nonempty n small)) (digits_words (decimal n) (digits_decimal own n small))

numeral : (digits : List ℕ) → is_digits digits ≡ true → IsNumeral digits (pos (value_of digits))
numeral [] h = absurd (let n : ⊥ = cc in n)
numeral (b ∷ bs) h = inl (h, refl)

pub decimal_numeral : (n : ℕ) → n < 10000000000 → IsNumeral (decimal n) (pos n)
decimal_numeral n lt =
    subst (λ m. IsNumeral (decimal n) (pos m)) (decimal_value n lt) (numeral (decimal n) (is_digits_decimal n lt))

pub signed_numeral : (z : ℤ) → is_wide z ≡ true → IsNumeral (signed_decimal z) z
signed_numeral (pos n) h = decimal_numeral n (let top = leb-true n 4294967295 h in omega arith)
signed_numeral (negsuc n) h =
    let lt : suc n < 10000000000 = (let top = leb-true n 2147483647 h in omega arith) in
    inr (refl, is_digits_decimal (suc n) lt, ap (λ (m : ℕ). neg_ℤ (pos m)) (sym (decimal_value (suc n) lt)))

pub signed_word : (z : ℤ) → is_wide z ≡ true → is_word (signed_decimal z) ≡ true
signed_word (pos n) h = decimal_word n (let top = leb-true n 4294967295 h in omega arith)
signed_word (negsuc n) h =
    and_from (nat_le 1 (length (signed_decimal (negsuc n)))) (list_all is_word_byte (signed_decimal (negsuc n)))
    (le-leb 1 (length (signed_decimal (negsuc n))) (omega arith)) (signed_words (negsuc n) h)

pub wide_low : (z : ℤ) → is_wide z ≡ true → negsuc 2147483647 ≤ℤ z
wide_low (pos n) h = omega (arith, ints)
wide_low (negsuc n) h = let top = leb-true n 2147483647 h in omega (arith, ints)

pub wide_high : (z : ℤ) → is_wide z ≡ true → z ≤ℤ pos 4294967295
wide_high (pos n) h = let top = leb-true n 4294967295 h in omega (arith, ints)
wide_high (negsuc n) h = omega (arith, ints)
