-- Whether there is room for items, by those of them that are new.
use Rattle.std.proofs.Common.{◌≡◌, ◌<◌, ◌≤◌, ◌+◌, ℕ, suc, List, [], ◌∷◌, ◌++◌, map, refl, sym, ap, ◌∙◌, true, false, not, length, arith}
use Rattle.std.specs.Prelude.{◌||◌, ◌-◌, if◌then◌else◌, nat_lt, is_some, Option, Some, None, Vec}
use Rattle.std.specs.declared.alloc.Global.{Global}
use Rattle.std.specs.Borrow.{Bor}
use Rattle.std.proofs.lemmas.Bool.Decides.{nat_tests}
use Rattle.std.proofs.lemmas.List.{length-map, length-append}
use Rattle.line_words.specs.Table.{same_name, is_among}
use Rattle.line_words.proofs.Tables.{same_name_is}
use Rattle.room_lists.specs.Keyed.{with_item, with_items, keys_there, has_key, without_key, AreFirsts}
use Rattle.room_lists.specs.Units.{with_unit, with_units, words_new}

one_counted : (units : List (List ℕ)) (word : List ℕ) (words : List (List ℕ))
    → length (with_unit units word) + length (words_new (with_unit units word) words) ≡ length units + length (words_new units (word ∷ words))
one_counted units word words =
    elim (is_among word units) as (λ b. length (if b then units else units ++ word ∷ []) + length (words_new (if b then units else units ++ word ∷ []) words)
    ≡ length units + length (if b then words_new units words else word ∷ words_new (units ++ word ∷ []) words)) [
      | true ↦ refl
      | false ↦ (let one : length (units ++ word ∷ []) ≡ length units + suc 0 = length-append units (word ∷ []) in omega arith)
    ]

counted_words : (units words : List (List ℕ)) → length (with_units units words) ≡ length units + length (words_new units words)
counted_words units [] = omega arith
counted_words units (word ∷ words) = counted_words (with_unit units word) words ∙ one_counted units word words

-- no more words are new than there are
pub fewer_new : (words units : List (List ℕ)) → length (words_new units words) ≤ length words
fewer_new [] units = omega arith
fewer_new (word ∷ words) units =
    let known = fewer_new words units in
    let new = fewer_new words (units ++ word ∷ []) in
    elim (is_among word units) as (λ b. length (if b then words_new units words else word ∷ words_new (units ++ word ∷ []) words) ≤ suc (length words)) [
      | true ↦ omega (arith, known)
      | false ↦ omega (arith, new)
    ]

module _ {T : Type 0} (key_of : T → List ℕ) where
  keys_with : (items : List T) (item : T) → map key_of (with_item key_of items item) ≡ with_unit (map key_of items) (key_of item)
  keys_with [] item = refl
  keys_with (t ∷ items) item =
      let units = map key_of items in
      elim (same_name (key_of item) (key_of t)) as (λ b. same_name (key_of item) (key_of t) ≡ b
      → map key_of (if b then item ∷ items else t ∷ with_item key_of items item)
      ≡ (if b || is_among (key_of item) units then key_of t ∷ units else (key_of t ∷ units) ++ key_of item ∷ [])) [
        | true ↦ λ same. ap (λ w. w ∷ units) (same_name_is (key_of item) (key_of t) same)
        | false ↦ λ other. ap (λ us. key_of t ∷ us) (keys_with items item)
            ∙ elim (is_among (key_of item) units) as (λ b. key_of t ∷ (if b then units else units ++ key_of item ∷ [])
            ≡ (if b then key_of t ∷ units else (key_of t ∷ units) ++ key_of item ∷ [])) [ true ↦ refl | false ↦ refl ]
      ] refl

  keys_with_all : (items ps : List T) → map key_of (with_items key_of items ps) ≡ with_units (map key_of items) (map key_of ps)
  keys_with_all items [] = refl
  keys_with_all items (p ∷ ps) = keys_with_all (with_item key_of items p) ps ∙ ap (λ us. with_units us (map key_of ps)) (keys_with items p)

  module _ (items ps : List T) where
    pub counted : length (with_items key_of items ps) ≡ length items + length (words_new (map key_of items) (map key_of ps))
    counted =
        sym (length-map (with_items key_of items ps) key_of) ∙ ap length (keys_with_all items ps) ∙ counted_words (map key_of items) (map key_of ps)
        ∙ ap (λ n. n + length (words_new (map key_of items) (map key_of ps))) (length-map items key_of)

    pub over_all : (limit : ℕ) → limit < length items + length (words_new (map key_of items) (map key_of ps))
        → false ≡ not (nat_lt limit (length (with_items key_of items ps)))
    over_all limit over = let count = counted in grind (arith, nat_tests, count, over)

    pub within_all : (limit : ℕ) → length items + length (words_new (map key_of items) (map key_of ps)) ≤ limit
        → true ≡ not (nat_lt limit (length (with_items key_of items ps)))
    within_all limit within = let count = counted in grind (arith, nat_tests, count, within)

    -- whether there is room, by those that are new
    pub room_from : (limit most : ℕ) → length items ≤ limit → most ≡ limit - length items → (new : Option (Vec (Bor T) Global))
        → AreFirsts key_of most (words_new (map key_of items) (map key_of ps)) new
        → is_some new ≡ not (nat_lt limit (length (with_items key_of items ps)))
    room_from limit most fits is None more = over_all limit (omega (arith, fits, is, more))
    room_from limit most fits is (Some firsts) are = within_all limit (omega (arith, fits, is, are.1))

  -- no more keys are there than are looked for
  pub fewer : (keys : List (List ℕ)) (items : List T) → length (keys_there key_of items keys) ≤ length keys
  fewer [] items = omega arith
  fewer (key ∷ keys) items =
      let here = fewer keys (without_key key_of key items) in
      let gone = fewer keys items in
      elim (has_key key_of key items) as (λ b. length (if b then key ∷ keys_there key_of (without_key key_of key items) keys else keys_there key_of items keys)
      ≤ suc (length keys)) [ true ↦ omega (arith, here) | false ↦ omega (arith, gone) ]
