-- Keys that were seen, each once, in the order in which they came.
use Rattle.std.proofs.Common.{◌≡◌, ◌<◌, ◌+◌, ℕ, List, [], ◌∷◌, ◌++◌, map, refl, sym, ap, ◌∙◌, Bool, true, false, not, nat_eq, length, drop, get_or}
use Rattle.std.specs.Prelude.{◌||◌, if◌then◌else◌}
use Rattle.std.specs.Borrow.{Bor}
use Rattle.std.specs.Cmp.Lexicographic.{pointwise, texts_ties}
use Rattle.std.specs.List.{list_any}
use Rattle.std.proofs.lemmas.List.{map-append}
use Rattle.indexmap.specs.IndexSet.{insert_key}
use Rattle.line_words.specs.Table.{same_name, is_among}
use Rattle.line_words.proofs.Tables.{same_name_is}
use Rattle.room_lists.proofs.Picked.{among_more, picked, passed_again, passed_other}
use Rattle.std.proofs.Math.Bool.{or-false, or-true}

abbrev pub same_bytes : Bor (List ℕ) → Bor (List ℕ) → Bool
same_bytes a b = pointwise nat_eq a.now b.now

abbrev pub words_of : List (Bor (List ℕ)) → List (List ℕ)
words_of seen = map (λ key. key.now) seen

pub was_seen : (key : Bor (List ℕ)) (seen : List (Bor (List ℕ))) → list_any (same_bytes key) seen ≡ is_among key.now (words_of seen)
was_seen key [] = refl
was_seen key (k ∷ seen) =
    ap (λ b. b || list_any (same_bytes key) seen) (texts_ties key.now k.now) ∙ ap (λ b. same_name key.now k.now || b) (was_seen key seen)

pub not_seen : (added b : Bool) → added ≡ not b → added ≡ true → b ≡ false
not_seen added true is e = let never : true ≡ false = sym e ∙ is in absurd (cc)
not_seen added false is e = refl

pub seen_before : (added b : Bool) → added ≡ not b → added ≡ false → b ≡ true
seen_before added true is e = refl
seen_before added false is e = let never : true ≡ false = sym is ∙ e in absurd (cc)

-- a key more in an index
pub among_inserted : (seen : List (Bor (List ℕ))) (key : Bor (List ℕ)) (other : List ℕ)
    → is_among other (words_of (insert_key same_bytes seen key)) ≡ (is_among other (words_of seen) || same_name other key.now)
among_inserted seen key other =
    elim (list_any (same_bytes key) seen) as (λ b. list_any (same_bytes key) seen ≡ b
    → is_among other (words_of (if b then seen else seen ++ key ∷ [])) ≡ (is_among other (words_of seen) || same_name other key.now)) [
      | true ↦ λ old. known (sym (was_seen key seen) ∙ old)
      | false ↦ λ new. ap (is_among other) (map-append (λ k. k.now) seen (key ∷ [])) ∙ among_more other (words_of seen) key.now
    ] refl
  where
    known : is_among key.now (words_of seen) ≡ true → is_among other (words_of seen) ≡ (is_among other (words_of seen) || same_name other key.now)
    known there = elim (same_name other key.now) as (λ b. same_name other key.now ≡ b → is_among other (words_of seen) ≡ (is_among other (words_of seen) || b)) [
      | true ↦ λ same. ap (λ w. is_among w (words_of seen)) (same_name_is other key.now same) ∙ there ∙ sym (or-true (is_among other (words_of seen)))
      | false ↦ λ apart. sym (or-false (is_among other (words_of seen)))
    ] refl

-- a key that comes, where of the keys that pass a test those are found that were seen
module _ (test : List ℕ → Bool) (seen : List (Bor (List ℕ))) (found : List (List ℕ)) (key : Bor (List ℕ)) (word : List ℕ) (same : key.now ≡ word)
    (held : (other : List ℕ) → test other ≡ true → is_among other (words_of seen) ≡ is_among other found) where
  known : test word ≡ true → list_any (same_bytes key) seen ≡ is_among word found
  known passes = was_seen key seen ∙ ap (λ w. is_among w (words_of seen)) same ∙ held word passes

  inserted : (other : List ℕ) → is_among other (words_of (insert_key same_bytes seen key)) ≡ (is_among other (words_of seen) || same_name other word)
  inserted other = among_inserted seen key other ∙ ap (λ w. is_among other (words_of seen) || same_name other w) same

  pub is_new : list_any (same_bytes key) seen ≡ false → test word ≡ true → is_among word found ≡ false
  is_new new passes = sym (known passes) ∙ new

  pub seen_new : (other : List ℕ) → test other ≡ true → is_among other (words_of (insert_key same_bytes seen key)) ≡ is_among other (found ++ word ∷ [])
  seen_new other passes = inserted other ∙ ap (λ b. b || same_name other word) (held other passes) ∙ sym (among_more other found word)

  pub seen_other : test word ≡ false → (other : List ℕ) → test other ≡ true
      → is_among other (words_of (insert_key same_bytes seen key)) ≡ is_among other found
  seen_other fails other passes = inserted other ∙ elim (same_name other word) as (λ b. same_name other word ≡ b
      → (is_among other (words_of seen) || b) ≡ is_among other found) [
        | true ↦ λ is. let never : true ≡ false = sym passes ∙ ap test (same_name_is other word is) ∙ fails in absurd (cc)
        | false ↦ λ apart. or-false (is_among other (words_of seen)) ∙ held other passes
      ] refl

  module _ (old : list_any (same_bytes key) seen ≡ true) where
    pub seen_again : (other : List ℕ) → test other ≡ true → is_among other (words_of (insert_key same_bytes seen key)) ≡ is_among other found
    seen_again other passes = ap (λ b. is_among other (words_of (if b then seen else seen ++ key ∷ []))) old ∙ held other passes

    pub passes_over : (words : List (List ℕ)) (i : ℕ) → i < length words → word ≡ get_or words i word
        → found ++ picked test found (drop (i + 1) words) ≡ found ++ picked test found (drop i words)
    passes_over words i inside is =
        elim (test word) as (λ b. test word ≡ b → found ++ picked test found (drop (i + 1) words) ≡ found ++ picked test found (drop i words)) [
          | true ↦ λ passes. passed_again test found words i word inside is (sym (known passes) ∙ old)
          | false ↦ λ fails. passed_other test found words i word inside is fails
        ] refl
