-- Items in an index, of which some are put among others.
use Rattle.std.proofs.Common.{◌≡◌, ℕ, List, [], ◌∷◌, ◌++◌, refl, ap, ◌∙◌, true, false, map}
use Rattle.std.specs.Prelude.{◌||◌, if◌then◌else◌}
use Rattle.std.specs.Cmp.Lexicographic.{texts_ties}
use Rattle.std.specs.Map.{values_of}
use Rattle.line_words.specs.Table.{same_name, is_among}
use Rattle.line_words.proofs.Keyed.{same_key}
use Rattle.indexmap.specs.IndexMap.{insert_entry}
use Rattle.room_lists.specs.Index.{IsIndex}
use Rattle.room_lists.specs.Keyed.{has_key, with_item, with_items}

module _ {T : Type 0} (key_of : T → List ℕ) where
  -- an item is there where its key is among those of the items
  pub has_key_is : (key : List ℕ) (items : List T) → is_among key (map key_of items) ≡ has_key key_of key items
  has_key_is key [] = refl
  has_key_is key (t ∷ items) = ap (λ b. same_name key (key_of t) || b) (has_key_is key items)

  module _ {K : Type 0} (bytes : K → List ℕ) where
    pub item_inserted : (es : List (K × T)) (k : K) (item : T) → IsIndex bytes key_of es → bytes k ≡ key_of item
        → values_of (insert_entry (same_key bytes) es k item) ≡ with_item key_of (values_of es) item
    item_inserted [] k item each is = refl
    item_inserted (e ∷ es) k item each is =
        ap (λ b. values_of (if b then (e.0, item) ∷ es else e ∷ insert_entry (same_key bytes) es k item))
        (texts_ties (bytes k) (bytes e.0) ∙ ap (λ ks. same_name ks (bytes e.0)) is ∙ ap (same_name (key_of item)) each.0)
        ∙ elim (same_name (key_of item) (key_of e.1)) as (λ b. values_of (if b then (e.0, item) ∷ es else e ∷ insert_entry (same_key bytes) es k item)
        ≡ (if b then item ∷ values_of es else e.1 ∷ with_item key_of (values_of es) item)) [
          | true ↦ refl
          | false ↦ ap (λ ts. e.1 ∷ ts) (item_inserted es k item each.1 is)
        ]

  pub with_both : (items ps qs : List T) → with_items key_of items (ps ++ qs) ≡ with_items key_of (with_items key_of items ps) qs
  with_both items [] qs = refl
  with_both items (p ∷ ps) qs = with_both (with_item key_of items p) ps qs
