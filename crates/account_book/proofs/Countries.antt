-- A country is a word.
use Rattle.std.proofs.Common.{◌≡◌, ℕ, true, false, List, [], ◌∷◌, length, refl, subst, sym, arith}
use Rattle.std.specs.Prelude.{Bool, codes, nat_le, ◌==◌, ◌&&◌, ◌||◌}
use Rattle.std.specs.Char.{is_ascii_uppercase}
use Rattle.std.specs.List.{list_all}
use Rattle.std.specs.Str.{bytes_eq}
use Rattle.std.proofs.lemmas.Bool.{and_parts, and_from}
use Rattle.std.proofs.lemmas.Bool.Decides.{nat_tests}
use Rattle.std.proofs.lemmas.Slice.Eq.{bytes_eq-Decides}
use Rattle.line_words.specs.Bytes.{is_word, is_word_byte}
use Rattle.line_words.proofs.WordLemmas.{upper_case_in_word}
use Rattle.account_book.specs.Account.{is_country}

letters : (bytes : List ℕ) → list_all is_ascii_uppercase bytes ≡ true → list_all is_word_byte bytes ≡ true
letters [] all = refl
letters (b ∷ bytes) all =
    let parts = and_parts (is_ascii_uppercase b) (list_all is_ascii_uppercase bytes) all in
    and_from (is_word_byte b) (list_all is_word_byte bytes) (upper_case_in_word b parts.0) (letters bytes parts.1)

two : (n : ℕ) → (n == 2) ≡ true → nat_le 1 n ≡ true
two n is = grind (arith, nat_tests)

pub country_is_word : (bytes : List ℕ) → is_country bytes ≡ true → is_word bytes ≡ true
country_is_word bytes country = by (bytes_eq bytes (codes "??")) (λ same. (bytes_eq-Decides bytes (codes "??")).0 same) country
  where
    by : (unknown : Bool) → (unknown ≡ true → bytes ≡ codes "??")
        → (unknown || (length bytes == 2 && list_all is_ascii_uppercase bytes)) ≡ true → is_word bytes ≡ true
    by true is _ = subst (λ b. is_word b ≡ true) (sym (is refl)) refl
    by false is known =
        let parts = and_parts (length bytes == 2) (list_all is_ascii_uppercase bytes) known in
        and_from (nat_le 1 (length bytes)) (list_all is_word_byte bytes) (two (length bytes) parts.0) (letters bytes parts.1)
