-- Every line of the log is one line of visible bytes.
use Rattle.std.proofs.Common.{◌≡◌, ℕ, ◌/◌, Bool, true, false, List, [], ◌∷◌, ◌++◌, append_assoc, refl, sym, ◌∙◌, arith}
use Rattle.std.specs.List.{flat_map, list_all}
use Rattle.std.proofs.lemmas.Bool.{and_from}
use Rattle.std.proofs.lemmas.Bool.Decides.{nat_tests}
use Rattle.std.proofs.lemmas.List.Folds.{list_all-append}
use Rattle.server_log.specs.Lines.{IsOneLine, field, harmless, harmless_byte, hex, is_plain, is_visible, line}

hex_seen : (n : ℕ) → is_visible (hex n) ≡ true
hex_seen n = grind (arith, nat_tests)

plain_seen : (b : ℕ) → is_plain b ≡ true → is_visible b ≡ true
plain_seen b h = grind (arith, nat_tests)

-- texts one behind the other
joined : (a b : List ℕ) → list_all is_visible a ≡ true → list_all is_visible b ≡ true → list_all is_visible (a ++ b) ≡ true
joined a b first second = list_all-append is_visible a b ∙ and_from _ _ first second

byte_seen : (b : ℕ) → list_all is_visible (harmless_byte b) ≡ true
byte_seen b = cases (is_plain b) refl where
  cases : (plain : Bool) → is_plain b ≡ plain → list_all is_visible (harmless_byte b) ≡ true
  cases true h = rw h (and_from _ _ (plain_seen b h) refl)
  cases false h = rw h (and_from _ _ (hex_seen (b / 16)) (and_from _ _ (hex_seen b) refl))

harmless_seen : (bytes : List ℕ) → list_all is_visible (harmless bytes) ≡ true
unfolding harmless
harmless_seen [] = refl
harmless_seen (b ∷ bytes) = joined (harmless_byte b) (harmless bytes) (byte_seen b) (harmless_seen bytes)

field_seen : (f : List ℕ × List ℕ) → list_all is_visible (field f) ≡ true
unfolding field
field_seen f =
    joined (32 ∷ harmless f.0 ++ 61 ∷ []) (harmless f.1) (joined (harmless f.0) (61 ∷ []) (harmless_seen f.0) refl) (harmless_seen f.1)

fields_seen : (fields : List (List ℕ × List ℕ)) → list_all is_visible (flat_map field fields) ≡ true
fields_seen [] = refl
fields_seen (f ∷ fields) = joined (field f) (flat_map field fields) (field_seen f) (fields_seen fields)

pub one_line : (word : List ℕ) (fields : List (List ℕ × List ℕ)) → IsOneLine (line word fields)
one_line word fields =
    (harmless word ++ flat_map field fields, sym (append_assoc (harmless word) (flat_map field fields) (10 ∷ [])), joined (harmless word) (flat_map field fields) (harmless_seen word) (fields_seen fields))
