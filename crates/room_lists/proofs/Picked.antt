-- Words that are picked from a list, each once.
use Rattle.std.proofs.Common.{◌≡◌, ◌<◌, ◌≤◌, ◌+◌, ℕ, List, [], ◌∷◌, ◌++◌, refl, sym, ap, ◌∙◌, Bool, true, false, not, length, map, drop, get_or, arith}
use Rattle.std.specs.Prelude.{◌||◌, ◌&&◌, if◌then◌else◌}
use Rattle.std.proofs.lemmas.List.{length-append, append_assoc, append-nil, at_drop_more, drop_all}
use Rattle.line_words.specs.Table.{same_name, is_among}
use Rattle.line_words.proofs.Tables.{same_name_is}
use Rattle.line_words.proofs.Once.{apart_either_way}
use Rattle.room_lists.specs.Keyed.{has_key, without_key, keys_there}
use Rattle.room_lists.specs.Units.{words_new}
use Rattle.room_lists.proofs.Entries.{has_key_is}
use Rattle.room_lists.proofs.Tests.{and_neither, neither}
use Rattle.std.proofs.Math.Bool.{and-true, and-false, or-false, or_assoc}

module _ (test : List ℕ → Bool) where
  -- those that pass a test and were not seen
  abbrev pub picked : List (List ℕ) → List (List ℕ) → List (List ℕ)
  picked seen [] = []
  picked seen (word ∷ words) = if test word && not (is_among word seen) then word ∷ picked (seen ++ word ∷ []) words else picked seen words

  -- the words found so far, and those that the rest of the list gives
  module _ (found words : List (List ℕ)) (i : ℕ) (word : List ℕ) (inside : i < length words) (is : word ≡ get_or words i word) where
    rest_is : picked found (drop i words)
        ≡ (if test word && not (is_among word found) then word ∷ picked (found ++ word ∷ []) (drop (i + 1) words) else picked found (drop (i + 1) words))
    rest_is = at_drop_more (picked found) words i word inside ∙ ap (λ w. picked found (w ∷ drop (i + 1) words)) (sym is)

    pub found_more : test word ≡ true → is_among word found ≡ false
        → (found ++ word ∷ []) ++ picked (found ++ word ∷ []) (drop (i + 1) words) ≡ found ++ picked found (drop i words)
    found_more passes new =
        let more = picked (found ++ word ∷ []) (drop (i + 1) words) in
        append_assoc found (word ∷ []) more
        ∙ ap (λ b. found ++ (if b then word ∷ more else picked found (drop (i + 1) words)))
        (sym (ap (λ b. b && not (is_among word found)) passes ∙ ap not new))
        ∙ ap (λ ws. found ++ ws) (sym rest_is)

    -- one more is found than those so far
    pub more_found : test word ≡ true → is_among word found ≡ false → found ++ picked found (drop i words) ≡ picked [] words
        → length found < length (picked [] words)
    more_found passes new held =
        let rest = picked (found ++ word ∷ []) (drop (i + 1) words) in
        let all : length (picked [] words) ≡ length ((found ++ word ∷ []) ++ rest) = ap length (sym held ∙ sym (found_more passes new)) in
        let both = length-append (found ++ word ∷ []) rest in
        let one = length-append found (word ∷ []) in
        omega arith

    passed : (test word && not (is_among word found)) ≡ false → found ++ picked found (drop (i + 1) words) ≡ found ++ picked found (drop i words)
    passed gone =
        ap (λ b. found ++ (if b then word ∷ picked (found ++ word ∷ []) (drop (i + 1) words) else picked found (drop (i + 1) words))) (sym gone)
        ∙ ap (λ ws. found ++ ws) (sym rest_is)

    pub passed_other : test word ≡ false → found ++ picked found (drop (i + 1) words) ≡ found ++ picked found (drop i words)
    passed_other other = passed (ap (λ b. b && not (is_among word found)) other)

    pub passed_again : is_among word found ≡ true → found ++ picked found (drop (i + 1) words) ≡ found ++ picked found (drop i words)
    passed_again again = passed (ap (λ b. test word && not b) again ∙ and-false (test word))

  pub all_picked : (found words : List (List ℕ)) (i : ℕ) → length words ≤ i → found ++ picked found (drop i words) ≡ picked [] words → found ≡ picked [] words
  all_picked found words i past held = sym (append-nil found) ∙ ap (λ ws. found ++ picked found ws) (sym (drop_all i words past)) ∙ held

pub among_more : (word : List ℕ) (words : List (List ℕ)) (other : List ℕ) → is_among word (words ++ other ∷ []) ≡ (is_among word words || same_name word other)
among_more word [] other = or-false (same_name word other)
among_more word (w ∷ words) other =
    ap (λ b. same_name word w || b) (among_more word words other) ∙ sym (or_assoc (same_name word w) (is_among word words) (same_name word other))

-- one more was seen
seen_too : (b : Bool) (seen : List (List ℕ)) (word other : List ℕ)
    → ((b && not (is_among other seen)) && not (same_name other word)) ≡ (b && not (is_among other (seen ++ word ∷ [])))
seen_too b seen word other = and_neither b (is_among other seen) (same_name other word) ∙ ap (λ c. b && not c) (sym (among_more other seen word))

-- a picked key is not there any more
module _ {T : Type 0} (key_of : T → List ℕ) where
  there_without : (items : List T) (key other : List ℕ)
      → has_key key_of key (without_key key_of other items) ≡ (has_key key_of key items && not (same_name key other))
  there_without [] key other = refl
  there_without (t ∷ items) key other =
      let left = without_key key_of other items in
      let there = has_key key_of key items in
      let rest = there_without items key other in
      elim (same_name other (key_of t)) as (λ b. same_name other (key_of t) ≡ b
      → has_key key_of key (if not b then t ∷ left else left) ≡ ((same_name key (key_of t) || there) && not (same_name key other))) [
        | true ↦ λ e. let is = same_name_is other (key_of t) e in
            rest ∙ elim (same_name key (key_of t)) as (λ a. same_name key (key_of t) ≡ a
            → (there && not (same_name key other)) ≡ ((a || there) && not (same_name key other))) [
              | true ↦ λ f. let same : same_name key other ≡ true = ap (same_name key) is ∙ f in
                  ap (λ s. there && not s) same ∙ and-false there ∙ sym (ap not same)
              | false ↦ λ f. refl
            ] refl
        | false ↦ λ e. elim (same_name key (key_of t)) as (λ a. same_name key (key_of t) ≡ a
            → (a || has_key key_of key left) ≡ ((a || there) && not (same_name key other))) [
              | true ↦ λ f. sym (ap not (apart_either_way other key (ap (same_name other) (same_name_is key (key_of t) f) ∙ e)))
              | false ↦ λ f. rest
            ] refl
      ] refl

  pub picked_there : (test : List ℕ → Bool) (keys : List (List ℕ)) (items : List T) (seen : List (List ℕ))
      → ((key : List ℕ) → (test key && not (is_among key seen)) ≡ has_key key_of key items) → picked test seen keys ≡ keys_there key_of items keys
  picked_there test [] items seen same = refl
  picked_there test (key ∷ keys) items seen same =
      ap (λ b. if b then key ∷ picked test (seen ++ key ∷ []) keys else picked test seen keys) (same key)
      ∙ elim (has_key key_of key items) as (λ b. (if b then key ∷ picked test (seen ++ key ∷ []) keys else picked test seen keys)
      ≡ (if b then key ∷ keys_there key_of (without_key key_of key items) keys else keys_there key_of items keys)) [
        | true ↦ ap (λ ks. key ∷ ks) (picked_there test keys (without_key key_of key items) (seen ++ key ∷ [])
            (λ other. sym (seen_too (test other) seen key other) ∙ ap (λ b. b && not (same_name other key)) (same other) ∙ sym (there_without items other key)))
        | false ↦ picked_there test keys items seen same
      ]

-- a picked word is there from then on
pub picked_new : (test : List ℕ → Bool) (words units seen : List (List ℕ))
    → ((word : List ℕ) → (test word && not (is_among word seen)) ≡ not (is_among word units)) → picked test seen words ≡ words_new units words
picked_new test [] units seen same = refl
picked_new test (word ∷ words) units seen same =
    ap (λ b. if b then word ∷ picked test (seen ++ word ∷ []) words else picked test seen words) (same word)
    ∙ elim (is_among word units) as (λ b. (if not b then word ∷ picked test (seen ++ word ∷ []) words else picked test seen words)
    ≡ (if b then words_new units words else word ∷ words_new (units ++ word ∷ []) words)) [
      | true ↦ picked_new test words units seen same
      | false ↦ ap (λ ws. word ∷ ws) (picked_new test words (units ++ word ∷ []) (seen ++ word ∷ [])
          (λ other. sym (seen_too (test other) seen word other) ∙ ap (λ b. b && not (same_name other word)) (same other)
          ∙ sym (neither (is_among other units) (same_name other word)) ∙ ap not (sym (among_more other units word))))
    ]

-- the keys that are there, and those that are not
module _ {T : Type 0} (key_of : T → List ℕ) (items : List T) where
  abbrev pub is_there : List ℕ → Bool
  is_there key = has_key key_of key items

  abbrev pub is_missing : List ℕ → Bool
  is_missing key = not (has_key key_of key items)

  module _ (keys : List (List ℕ)) where
    pub all_there : picked is_there [] keys ≡ keys_there key_of items keys
    all_there = picked_there key_of is_there keys items [] (λ key. and-true (is_there key))

    pub all_missing : picked is_missing [] keys ≡ words_new (map key_of items) keys
    all_missing = picked_new is_missing keys (map key_of items) []
        (λ key. and-true (is_missing key) ∙ ap not (sym (has_key_is key_of key items)))
