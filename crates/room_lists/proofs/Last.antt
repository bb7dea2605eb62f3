-- Items of which only the last of each key are put.
use Rattle.std.proofs.Common.{◌≡◌, ◌<◌, ◌+◌, ℕ, List, [], ◌∷◌, ◌++◌, map, refl, sym, ap, subst, ◌∙◌, true, false, length, take, get_or, is_some}
use Rattle.std.specs.Prelude.{◌||◌, if◌then◌else◌}
use Rattle.std.proofs.Math.Bool.{or-true}
use Rattle.std.specs.Borrow.{Bor}
use Rattle.std.specs.List.{IsDistinct, AllByRecursion}
use Rattle.line_words.specs.Table.{same_name}
use Rattle.line_words.proofs.Tables.{same_name_is}
use Rattle.std.specs.Map.{lookup, values_of}
use Rattle.std.proofs.lemmas.List.{take_more}
use Rattle.indexmap.specs.IndexMap.{insert_entry}
use Rattle.line_words.specs.Table.{is_among}
use Rattle.line_words.proofs.Keyed.{same_key, stands_for}
use Rattle.line_words.proofs.Once.{apart_either_way}
use Rattle.room_lists.specs.Index.{IsIndex}
use Rattle.room_lists.specs.Keyed.{has_key, with_item, with_items}
use Rattle.room_lists.proofs.Counted.{has_all, has_with}
use Rattle.room_lists.proofs.Entries.{has_key_is, item_inserted, with_both}
use Rattle.room_lists.proofs.Indexed.{has_value, index_inserted}

module _ {T : Type 0} (key_of : T → List ℕ) where
  -- another item of a key takes the place of the one before it
  takes_place : (items : List T) (q p : T) → same_name (key_of p) (key_of q) ≡ true → with_item key_of (with_item key_of items q) p ≡ with_item key_of items p
  takes_place [] q p same = ap (λ b. if b then p ∷ [] else q ∷ p ∷ []) same
  takes_place (t ∷ items) q p same =
      let named : key_of p ≡ key_of q = same_name_is (key_of p) (key_of q) same in
      elim (same_name (key_of q) (key_of t)) as (λ b. same_name (key_of q) (key_of t) ≡ b
      → with_item key_of (if b then q ∷ items else t ∷ with_item key_of items q) p ≡ with_item key_of (t ∷ items) p) [
        | true ↦ λ is. ap (λ b. if b then p ∷ items else q ∷ with_item key_of items p) same
            ∙ sym (ap (λ b. if b then p ∷ items else t ∷ with_item key_of items p) (ap (λ k. same_name k (key_of t)) named ∙ is))
        | false ↦ λ apart.
            let other : same_name (key_of p) (key_of t) ≡ false = ap (λ k. same_name k (key_of t)) named ∙ apart in
            ap (λ b. if b then p ∷ with_item key_of items q else t ∷ with_item key_of (with_item key_of items q) p) other
            ∙ ap (λ ts. t ∷ ts) (takes_place items q p same)
            ∙ sym (ap (λ b. if b then p ∷ items else t ∷ with_item key_of items p) other)
      ] refl

  -- where the key of one is there, it makes no difference which of two keys comes first
  either_first : (items : List T) (r p : T) → same_name (key_of p) (key_of r) ≡ false → has_key key_of (key_of p) items ≡ true
      → with_item key_of (with_item key_of items r) p ≡ with_item key_of (with_item key_of items p) r
  either_first [] r p apart there = absurd (cc)
  either_first (t ∷ items) r p apart there =
      elim (same_name (key_of r) (key_of t)) as (λ a. same_name (key_of r) (key_of t) ≡ a
      → with_item key_of (if a then r ∷ items else t ∷ with_item key_of items r) p ≡ with_item key_of (with_item key_of (t ∷ items) p) r) [
        | true ↦ λ is.
            let other : same_name (key_of p) (key_of t) ≡ false = ap (same_name (key_of p)) (sym (same_name_is (key_of r) (key_of t) is)) ∙ apart in
            ap (λ b. if b then p ∷ items else r ∷ with_item key_of items p) apart
            ∙ sym (ap (λ b. if b then r ∷ with_item key_of items p else t ∷ with_item key_of (with_item key_of items p) r) is)
            ∙ sym (ap (λ b. with_item key_of (if b then p ∷ items else t ∷ with_item key_of items p) r) other)
        | false ↦ λ no. elim (same_name (key_of p) (key_of t)) as (λ b. same_name (key_of p) (key_of t) ≡ b → (b || has_key key_of (key_of p) items) ≡ true
            → (if b then p ∷ with_item key_of items r else t ∷ with_item key_of (with_item key_of items r) p)
            ≡ with_item key_of (if b then p ∷ items else t ∷ with_item key_of items p) r) [
              | true ↦ λ is rest. sym (ap (λ b. if b then r ∷ items else p ∷ with_item key_of items r) (apart_either_way (key_of p) (key_of r) apart))
              | false ↦ λ isnt rest. ap (λ ts. t ∷ ts) (either_first items r p apart rest)
                  ∙ sym (ap (λ b. if b then r ∷ with_item key_of items p else t ∷ with_item key_of (with_item key_of items p) r) no)
            ] refl there
      ] refl

  abbrev pub AreApart : List ℕ → List T → Type 0
  AreApart key items = AllByRecursion (λ other. same_name key other ≡ false) (map key_of items)

  before_others : (items qs : List T) (p : T) → AreApart (key_of p) qs → has_key key_of (key_of p) items ≡ true
      → with_items key_of (with_item key_of items p) qs ≡ with_item key_of (with_items key_of items qs) p
  before_others items [] p apart there = refl
  before_others items (r ∷ qs) p apart there =
      ap (λ ts. with_items key_of ts qs) (sym (either_first items r p apart.0 there))
      ∙ before_others (with_item key_of items r) qs p apart.1 (has_with key_of (key_of p) items r ∙ ap (λ b. b || same_name (key_of p) (key_of r)) there)

  has_itself : (items : List T) (q p : T) → same_name (key_of p) (key_of q) ≡ true → has_key key_of (key_of p) (with_item key_of items q) ≡ true
  has_itself items q p same = has_with key_of (key_of p) items q ∙ ap (λ b. has_key key_of (key_of p) items || b) same ∙ or-true (has_key key_of (key_of p) items)

  one_alone : (items qs : List T) (p : T) → IsDistinct same_name (map key_of qs)
      → with_items key_of items (with_item key_of qs p) ≡ with_item key_of (with_items key_of items qs) p
  unfolding IsDistinct
  one_alone items [] p distinct = refl
  one_alone items (q ∷ qs) p distinct =
      elim (same_name (key_of p) (key_of q)) as (λ b. same_name (key_of p) (key_of q) ≡ b
      → with_items key_of items (if b then p ∷ qs else q ∷ with_item key_of qs p) ≡ with_item key_of (with_items key_of (with_item key_of items q) qs) p) [
        | true ↦ λ same.
            ap (λ ts. with_items key_of ts qs) (sym (takes_place items q p same))
            ∙ before_others (with_item key_of items q) qs p (subst (λ k. AreApart k qs) (sym (same_name_is (key_of p) (key_of q) same)) distinct.0) (has_itself items q p same)
        | false ↦ λ other. one_alone (with_item key_of items q) qs p distinct.1
      ] refl

  apart_with : (key : List ℕ) (qs : List T) (p : T) → AreApart key qs → same_name key (key_of p) ≡ false → AreApart key (with_item key_of qs p)
  apart_with key [] p apart other = (other, tt)
  apart_with key (q ∷ qs) p apart other =
      elim (same_name (key_of p) (key_of q)) as (λ b. AreApart key (if b then p ∷ qs else q ∷ with_item key_of qs p)) [
        | true ↦ (other, apart.1)
        | false ↦ (apart.0, apart_with key qs p apart.1 other)
      ]

  distinct_with : (qs : List T) (p : T) → IsDistinct same_name (map key_of qs) → IsDistinct same_name (map key_of (with_item key_of qs p))
  unfolding IsDistinct
  distinct_with [] p distinct = (tt, tt)
  distinct_with (q ∷ qs) p distinct =
      elim (same_name (key_of p) (key_of q)) as (λ b. same_name (key_of p) (key_of q) ≡ b
      → IsDistinct same_name (map key_of (if b then p ∷ qs else q ∷ with_item key_of qs p))) [
        | true ↦ λ same. (subst (λ k. AreApart k qs) (sym (same_name_is (key_of p) (key_of q) same)) distinct.0, distinct.1)
        | false ↦ λ other. (apart_with (key_of q) qs p distinct.0 (apart_either_way (key_of p) (key_of q) other), distinct_with qs p distinct.1)
      ] refl

  all_alone : (items qs ps : List T) → IsDistinct same_name (map key_of qs) → with_items key_of items (with_items key_of qs ps) ≡ with_items key_of (with_items key_of items qs) ps
  all_alone items qs [] distinct = refl
  all_alone items qs (p ∷ ps) distinct =
      all_alone items (with_item key_of qs p) ps (distinct_with qs p distinct) ∙ ap (λ ts. with_items key_of ts ps) (one_alone items qs p distinct)

  -- the last of each key, alone, come to the same
  pub last_alone : (ps items : List T) → with_items key_of items (with_items key_of [] ps) ≡ with_items key_of items ps
  unfolding IsDistinct
  last_alone ps items = all_alone items [] ps tt

  -- items that are lent
  pub lent_with : (lent : List (Bor T)) (p : Bor T) → map (λ t. t.now) (with_item (λ t. key_of t.now) lent p) ≡ with_item key_of (map (λ t. t.now) lent) p.now
  lent_with [] p = refl
  lent_with (t ∷ lent) p =
      elim (same_name (key_of p.now) (key_of t.now)) as (λ b. map (λ t. t.now) (if b then p ∷ lent else t ∷ with_item (λ t. key_of t.now) lent p)
      ≡ (if b then p.now ∷ map (λ t. t.now) lent else t.now ∷ with_item key_of (map (λ t. t.now) lent) p.now)) [
        | true ↦ refl
        | false ↦ ap (λ ts. t.now ∷ ts) (lent_with lent p)
      ]

keys_lent : {T : Type 0} (key_of : T → List ℕ) (lent : List (Bor T)) → map (λ t. key_of t.now) lent ≡ map key_of (map (λ t. t.now) lent)
keys_lent key_of [] = refl
keys_lent key_of (t ∷ lent) = ap (λ ks. key_of t.now ∷ ks) (keys_lent key_of lent)

-- one item more, where an index has the last of each key
module _ {T : Type 0} (key_of : T → List ℕ) (es : List (Bor (List ℕ) × Bor T)) (ps : List T) (i : ℕ) (item : T) (key : Bor (List ℕ))
    (inside : i < length ps) (is : item ≡ get_or ps i item) (named : key.now ≡ key_of item)
    (keys : IsIndex (λ k. k.now) (λ t. key_of t.now) es) (last : map (λ t. t.now) (values_of es) ≡ with_items key_of [] (take i ps)) where
  pub was_there : is_some (lookup (stands_for (λ k. k.now) key.now) es) ≡ has_key key_of (key_of item) (take i ps)
  was_there =
      has_value (λ k. k.now) (λ t. key_of t.now) key.now es keys
      ∙ ap (is_among key.now) (keys_lent key_of (values_of es) ∙ ap (map key_of) last)
      ∙ has_key_is key_of key.now (with_items key_of [] (take i ps))
      ∙ has_all key_of key.now [] (take i ps)
      ∙ ap (λ k. has_key key_of k (take i ps)) named

  pub put_last : (new : List (Bor (List ℕ) × Bor T)) (p : Bor T) → p.now ≡ item → new ≡ insert_entry (same_key (λ k. k.now)) es key p
      → IsIndex (λ k. k.now) (λ t. key_of t.now) new × (map (λ t. t.now) (values_of new) ≡ with_items key_of [] (take (i + 1) ps))
  put_last new p same put =
      let called : key.now ≡ key_of p.now = named ∙ ap key_of (sym same) in (
        subst (IsIndex (λ k. k.now) (λ t. key_of t.now)) (sym put) (index_inserted (λ k. k.now) (λ t. key_of t.now) es key p keys called),
        ap (λ fs. map (λ t. t.now) (values_of fs)) put ∙ ap (map (λ t. t.now)) (item_inserted (λ t. key_of t.now) (λ k. k.now) es key p keys called)
            ∙ lent_with key_of (values_of es) p ∙ ap (λ ts. with_item key_of ts p.now) last ∙ ap (with_item key_of (with_items key_of [] (take i ps))) same
            ∙ sym (with_both key_of [] (take i ps) (item ∷ []))
            ∙ ap (with_items key_of []) (ap (λ q. take i ps ++ q ∷ []) is ∙ sym (take_more ps i item inside)),
      )
