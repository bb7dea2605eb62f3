-- Texts that are UTF-8 are spelled as they are.
use Rattle.std.proofs.Common.{◌≡◌, ℕ, zero, suc, ◌<◌, Bool, true, false, List, [], ◌∷◌, ◌++◌, length, map, refl, sym, ap, ◌∙◌, subst, arith}
use Rattle.std.specs.Prelude.{codes, ◌&&◌, ◌||◌, ◌==◌, nat_le}
use Rattle.std.specs.Char.{is_ascii_uppercase}
use Rattle.std.specs.List.{list_all}
use Rattle.std.specs.Str.{bytes_eq, is_utf8, IsUtf8, IsAscii}
use Rattle.std.specs.Str.Lossy.{utf8_lossy}
use Rattle.std.proofs.lemmas.Bool.{and_parts}
use Rattle.std.proofs.lemmas.Bool.Decides.{nat_tests}
use Rattle.std.proofs.lemmas.Slice.Eq.{bytes_eq-Decides}
use Rattle.std.proofs.lemmas.Str.{IsUtf8-append, IsUtf8-from_ascii, IsUtf8-from_is_utf8, is_utf8-from_IsUtf8, utf8_lossy-IsUtf8}
use Rattle.line_words.specs.Bytes.{is_name, is_name_byte}
use Rattle.account_book.specs.Account.{Account, is_country, is_password_word, is_sound}
use Rattle.lobby_model.specs.Configuration.{Configuration, is_configuration, is_version, is_version_byte}
use Rattle.record_lines.specs.Head.{comment_line, is_printed, spelled, spelled_account}
use Rattle.record_lines.specs.Masks.{passes}

-- bytes of which each has a property that none past ASCII has
ascii : (test : ℕ → Bool) → ((b : ℕ) → test b ≡ true → b < 128) → (bytes : List ℕ) → list_all test bytes ≡ true
    → IsAscii bytes
ascii test small [] all i = omega arith
ascii test small (b ∷ bytes) all zero = small b (and_parts (test b) (list_all test bytes) all).0
ascii test small (b ∷ bytes) all (suc i) = ascii test small bytes (and_parts (test b) (list_all test bytes) all).1 i

small_printed : (b : ℕ) → is_printed b ≡ true → b < 128
small_printed b h = grind (arith, nat_tests)

small_version : (b : ℕ) → is_version_byte b ≡ true → b < 128
small_version b h = grind (arith, nat_tests)

small_name : (b : ℕ) → is_name_byte b ≡ true → b < 128
small_name b h = grind (arith, nat_tests)

small_letter : (b : ℕ) → is_ascii_uppercase b ≡ true → b < 128
small_letter b h = grind (arith, nat_tests)

kept : (bytes : List ℕ) → IsAscii bytes → utf8_lossy bytes ≡ bytes
kept bytes is = utf8_lossy-IsUtf8 bytes (IsUtf8-from_ascii bytes is)

version_kept : (word : List ℕ) → is_version word ≡ true → utf8_lossy word ≡ word
version_kept word is =
    kept word (ascii is_version_byte small_version word
    (and_parts (nat_le 1 (length word) && nat_le (length word) 32) (list_all is_version_byte word) is).1)

name_kept : (name : List ℕ) → is_name name ≡ true → utf8_lossy name ≡ name
name_kept name is =
    kept name (ascii is_name_byte small_name name
    (and_parts (nat_le 1 (length name) && nat_le (length name) 20) (list_all is_name_byte name) is).1)

country_kept : (country : List ℕ) → is_country country ≡ true → utf8_lossy country ≡ country
country_kept country is =
    by (bytes_eq country (codes "??")) (λ same. (bytes_eq-Decides country (codes "??")).0 same) is
  where
    by : (unknown : Bool) → (unknown ≡ true → country ≡ codes "??")
        → (unknown || (length country == 2 && list_all is_ascii_uppercase country)) ≡ true → utf8_lossy country ≡ country
    by true same _ =
        subst (λ (bytes : List ℕ). utf8_lossy bytes ≡ bytes) (sym (same refl))
        (kept (codes "??") (ascii is_printed small_printed (codes "??") refl))
    by false same known =
        kept country (ascii is_ascii_uppercase small_letter country
        (and_parts (length country == 2) (list_all is_ascii_uppercase country) known).1)

lines_kept : (lines : List (List ℕ)) → list_all is_utf8 lines ≡ true → map utf8_lossy lines ≡ lines
lines_kept [] all = refl
lines_kept (line ∷ lines) all =
    let parts = and_parts (is_utf8 line) (list_all is_utf8 lines) all in
    ap (λ (l : List ℕ). l ∷ map utf8_lossy lines) (utf8_lossy-IsUtf8 line (IsUtf8-from_is_utf8 line parts.0))
    ∙ ap (λ (ls : List (List ℕ)). line ∷ ls) (lines_kept lines parts.1)

-- settings, and an account, that are as they have to be
pub versions : (settings : Configuration) → is_configuration settings ≡ true
    → (is_version settings.protocol_version ≡ true) × (is_version settings.spring_version ≡ true)
versions s h = grind arith

pub spelled_same : (settings : Configuration) → is_configuration settings ≡ true
    → list_all is_utf8 settings.motd ≡ true → spelled settings ≡ settings
spelled_same s h lines =
    let (protocol, spring) = versions s h in
    rw (version_kept s.protocol_version protocol, version_kept s.spring_version spring, lines_kept s.motd lines) refl

pub account_same : (account : Account) → is_sound account ≡ true → spelled_account account ≡ account
account_same a h =
    let country = and_parts (is_name a.name && is_password_word a.password && nat_le a.rank 7) (is_country a.country) h in
    let rank = and_parts (is_name a.name && is_password_word a.password) (nat_le a.rank 7) country.0 in
    let word = and_parts (is_name a.name) (is_password_word a.password) rank.0 in
    rw (name_kept a.name word.0, country_kept a.country country.1) refl

-- a comment in printed bytes is UTF-8 too
pub comment_utf8 : (words text : List ℕ) → list_all is_printed words ≡ true → is_utf8 text ≡ true
    → is_utf8 (comment_line words ++ text) ≡ true
comment_utf8 words text all valid =
    let one : (b : ℕ) → b < 128 → IsUtf8 (b ∷ []) = λ b small. IsUtf8-from_ascii (b ∷ []) (alone b small) in
    is_utf8-from_IsUtf8 (comment_line words ++ text)
    (IsUtf8-append (comment_line words) text
    (IsUtf8-append (35 ∷ []) (words ++ 10 ∷ []) (one 35 (omega arith))
    (IsUtf8-append words (10 ∷ []) (IsUtf8-from_ascii words (ascii is_printed small_printed words all)) (one 10 (omega arith))))
    (IsUtf8-from_is_utf8 text valid))
  where
    alone : (b : ℕ) → b < 128 → IsAscii (b ∷ [])
    alone b small zero = small
    alone b small (suc i) = omega arith

-- a text behind another, with an empty line between them or not
pub gap_utf8 : (old gap text : List ℕ) → is_utf8 old ≡ true → is_utf8 gap ≡ true → is_utf8 text ≡ true
    → is_utf8 (old ++ (gap ++ text)) ≡ true
gap_utf8 old gap text a b c =
    is_utf8-from_IsUtf8 (old ++ (gap ++ text))
    (IsUtf8-append old (gap ++ text) (IsUtf8-from_is_utf8 old a)
    (IsUtf8-append gap text (IsUtf8-from_is_utf8 gap b) (IsUtf8-from_is_utf8 text c)))

pub none_utf8 : is_utf8 [] ≡ true
none_utf8 = is_utf8-from_IsUtf8 [] (IsUtf8-from_ascii [] (ascii is_printed small_printed [] refl))

pub feed_utf8 : is_utf8 (10 ∷ []) ≡ true
feed_utf8 = is_utf8-from_IsUtf8 (10 ∷ []) (IsUtf8-from_ascii (10 ∷ []) alone)
  where
    alone : IsAscii (10 ∷ [])
    alone zero = omega arith
    alone (suc i) = omega arith

pub passes_kept : utf8_lossy passes ≡ passes
passes_kept = kept passes (ascii is_printed small_printed passes refl)

pub address_kept : utf8_lossy (codes "0.0.0.0:0") ≡ codes "0.0.0.0:0"
address_kept = kept (codes "0.0.0.0:0") (ascii is_printed small_printed (codes "0.0.0.0:0") refl)
