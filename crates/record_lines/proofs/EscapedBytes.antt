-- Escaped bytes stand for the bytes, and have no LF.
use Rattle.std.proofs.Common.{◌≡◌, ℕ, ◌+◌, ◌*◌, ◌/◌, ◌%◌, ◌<◌, Bool, true, false, nat_eq, List, [], ◌∷◌}
use Rattle.std.proofs.Common.{refl, sym, ap, ◌∙◌, subst, arith, eqb-true, eq-eqb, ◌≤◌, ◌++◌, length, get_or, take, drop, suc, append_assoc}
use Rattle.std.specs.Prelude.{flat_map}
use Rattle.std.proofs.Math.Seq.{drop-cons}
use Rattle.std.proofs.lemmas.List.{take-append-drop}
use Rattle.std.proofs.lemmas.Grind.{flat_map-append}
use Rattle.reply_printer.proofs.Kept.{lacks_whole}
use Rattle.std.specs.Char.{digit_char, digit_value}
use Rattle.std.proofs.lemmas.Bool.{false≢true}
use Rattle.std.proofs.lemmas.Bool.Decides.{nat_tests}
use Rattle.line_words.specs.Bytes.{has_byte}
use Rattle.proxy_line.proofs.Parts.{lacks-append}
use Rattle.record_lines.specs.Escapes.{Written, plain, line_feed, tab, carriage_return, backslash, hexadecimal}
use Rattle.record_lines.specs.Escapes.{StandsForBytes}
use Rattle.record_lines.specs.Printed.{escaped, escaped_byte, is_control}

digit_back : (d : ℕ) → d < 16 → digit_value (digit_char d) ≡ d
digit_back d small = grind (arith, nat_tests)

no_feed_digit : (d : ℕ) → nat_eq (digit_char d) 10 ≡ false
no_feed_digit d = grind (arith, nat_tests)

control_small : (b : ℕ) → is_control b ≡ true → b < 128
control_small b h = grind (arith, nat_tests)

hexadecimal_written : (b : ℕ) → b < 128 → Written b (92 ∷ 120 ∷ digit_char (b / 16) ∷ digit_char (b % 16) ∷ [])
hexadecimal_written b small =
    let high : b / 16 < 16 = omega arith in
    let low : b % 16 < 16 = omega arith in
    let first = digit_back (b / 16) high in
    let second = digit_back (b % 16) low in
    let value : 16 * digit_value (digit_char (b / 16)) + digit_value (digit_char (b % 16)) ≡ b =
    rw (first, second) (omega arith) in
    subst (λ x. Written x (92 ∷ 120 ∷ digit_char (b / 16) ∷ digit_char (b % 16) ∷ [])) value
    (hexadecimal (subst (λ x. x < 16) (sym first) high) (subst (λ x. x < 16) (sym second) low))

-- a byte as it is printed: it is written, and has no LF
record IsPrinted (b : ℕ) (text : List ℕ) : Type 0 where
  written : Written b text
  one_line : has_byte 10 text ≡ false

module _ (b : ℕ) where
  at : (n : ℕ) (text : List ℕ) → nat_eq b n ≡ true → Written n text → has_byte 10 text ≡ false → IsPrinted b text
  at n text h is lacks = record {
    written = subst (λ x. Written x text) (sym (eqb-true b n h)) is;
    one_line = lacks;
  }

  others : (t : Bool) → is_control b ≡ t → nat_eq b 92 ≡ false → nat_eq b 10 ≡ false → nat_eq b 9 ≡ false
      → nat_eq b 13 ≡ false → IsPrinted b (escaped_byte b)
  others true h p q r s = rw (p, q, r, s, h) (record {
    written = hexadecimal_written b (control_small b h);
    one_line = rw (no_feed_digit (b / 16), no_feed_digit (b % 16)) refl;
  })
  others false h p q r s = rw (p, q, r, s, h) (record {
    written = plain (λ e. false≢true (sym p ∙ eq-eqb b 92 e));
    one_line = rw q refl;
  })

  is_return : (t : Bool) → nat_eq b 13 ≡ t → nat_eq b 92 ≡ false → nat_eq b 10 ≡ false → nat_eq b 9 ≡ false
      → IsPrinted b (escaped_byte b)
  is_return true h p q r = rw (p, q, r, h) (at 13 _ h carriage_return refl)
  is_return false h p q r = others (is_control b) refl p q r h

  is_tab : (t : Bool) → nat_eq b 9 ≡ t → nat_eq b 92 ≡ false → nat_eq b 10 ≡ false → IsPrinted b (escaped_byte b)
  is_tab true h p q = rw (p, q, h) (at 9 _ h tab refl)
  is_tab false h p q = is_return (nat_eq b 13) refl p q h

  is_feed : (t : Bool) → nat_eq b 10 ≡ t → nat_eq b 92 ≡ false → IsPrinted b (escaped_byte b)
  is_feed true h p = rw (p, h) (at 10 _ h line_feed refl)
  is_feed false h p = is_tab (nat_eq b 9) refl p h

  is_slash : (t : Bool) → nat_eq b 92 ≡ t → IsPrinted b (escaped_byte b)
  is_slash true h = rw h (at 92 _ h backslash refl)
  is_slash false h = is_feed (nat_eq b 10) refl h

byte_printed : (b : ℕ) → IsPrinted b (escaped_byte b)
byte_printed b = is_slash b (nat_eq b 92) refl

pub stands : (bytes : List ℕ) → StandsForBytes (escaped bytes) bytes
unfolding escaped
stands [] = refl
stands (b ∷ bytes) = (escaped bytes, (escaped_byte b, (byte_printed b).written, refl), stands bytes)

pub lacks_feed : (bytes : List ℕ) → has_byte 10 (escaped bytes) ≡ false
unfolding escaped
lacks_feed [] = refl
lacks_feed (b ∷ bytes) = lacks-append 10 (escaped_byte b) (escaped bytes) (byte_printed b).one_line (lacks_feed bytes)

escaped_parts : (bytes : List ℕ) (i : ℕ) → i < length bytes
    → escaped (take i bytes) ++ (escaped_byte (get_or bytes i 0) ++ escaped (drop (suc i) bytes)) ≡ escaped bytes
unfolding escaped
escaped_parts bytes i low =
    ap (λ t. flat_map escaped_byte (take i bytes) ++ flat_map escaped_byte t) (sym (drop-cons bytes i 0 low))
    ∙ sym (flat_map-append escaped_byte (take i bytes) (drop i bytes)) ∙ ap (flat_map escaped_byte) (take-append-drop i bytes)

-- what lacks room for a byte lacks it for all
pub byte_lacks : (old new bytes : List ℕ) (i room least : ℕ) → new ≡ old ++ escaped (take i bytes) → i < length bytes
    → least ≤ room → room < length new + length (escaped_byte (get_or bytes i 0))
    → least < length old + length (escaped bytes)
byte_lacks old new bytes i room least e low more lacks =
    let here = escaped_byte (get_or bytes i 0) in
    let behind = escaped (drop (suc i) bytes) in
    lacks_whole old new here behind (escaped bytes) room least
    (ap (λ t. t ++ (here ++ behind)) e ∙ append_assoc old (escaped (take i bytes)) (here ++ behind)
    ∙ ap (λ t. old ++ t) (escaped_parts bytes i low)) more lacks
