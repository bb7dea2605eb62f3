-- Units that are added at the end, each once, as items that are their own keys.
use Rattle.std.proofs.Common.{◌≡◌, ℕ, List, [], ◌∷◌, ◌++◌, refl, ap, ◌∙◌, true, false}
use Rattle.std.specs.Prelude.{◌||◌, if◌then◌else◌}
use Rattle.line_words.specs.Table.{same_name, is_among}
use Rattle.line_words.proofs.Tables.{same_name_is}
use Rattle.room_lists.specs.Keyed.{with_item, with_items}
use Rattle.room_lists.specs.Units.{unit_key, with_unit, with_units, words_new}

with_unit_is : (units : List (List ℕ)) (unit : List ℕ) → with_item unit_key units unit ≡ with_unit units unit
with_unit_is [] unit = refl
with_unit_is (u ∷ units) unit =
    elim (same_name unit u) as (λ b. same_name unit u ≡ b → (if b then unit ∷ units else u ∷ with_item unit_key units unit)
    ≡ (if b || is_among unit units then u ∷ units else (u ∷ units) ++ unit ∷ [])) [
      | true ↦ λ same. ap (λ w. w ∷ units) (same_name_is unit u same)
      | false ↦ λ other. ap (λ us. u ∷ us) (with_unit_is units unit)
          ∙ elim (is_among unit units) as (λ b. u ∷ (if b then units else units ++ unit ∷ []) ≡ (if b then u ∷ units else (u ∷ units) ++ unit ∷ [])) [ true ↦ refl | false ↦ refl ]
    ] refl

pub with_units_are : (units words : List (List ℕ)) → with_items unit_key units words ≡ with_units units words
with_units_are units [] = refl
with_units_are units (word ∷ words) = ap (λ us. with_items unit_key us words) (with_unit_is units word) ∙ with_units_are (with_unit units word) words

-- those that are new, alone, come to the same
pub new_alone : (words units : List (List ℕ)) → with_units units (words_new units words) ≡ with_units units words
new_alone [] units = refl
new_alone (word ∷ words) units =
    elim (is_among word units) as (λ b. is_among word units ≡ b
    → with_units units (if b then words_new units words else word ∷ words_new (units ++ word ∷ []) words) ≡ with_units (if b then units else units ++ word ∷ []) words) [
      | true ↦ λ there. new_alone words units
      | false ↦ λ new. ap (λ b. with_units (if b then units else units ++ word ∷ []) (words_new (units ++ word ∷ []) words)) new
          ∙ new_alone words (units ++ word ∷ [])
    ] refl
