-- The values of an index, each behind the bytes of its own name.
use Rattle.std.proofs.Common.{◌≡◌, ℕ, List, [], ◌∷◌, ◌++◌, map, filter, refl, sym, ap, subst, ◌∙◌, Bool, true, false, cond, not, is_some}
use Rattle.std.specs.Prelude.{find, if◌then◌else◌, Some, None}
use Rattle.std.proofs.lemmas.Option.{same_Some}
use Rattle.std.specs.Cmp.Lexicographic.{texts_ties, nat_list_eq_equiv}
use Rattle.std.specs.List.{IsDistinct, AllByRecursion}
use Rattle.std.specs.Map.{lookup, set_value, remove_entry, keys_of, values_of}
use Rattle.indexmap.specs.IndexMap.{insert_entry}
use Rattle.line_words.specs.Table.{same_name, is_among}
use Rattle.line_words.proofs.Tables.{same_name_is}
use Rattle.line_words.proofs.Keyed.{same_key, stands_for, names_of, distinct_names, is_there, not_there, removed}
use Rattle.room_lists.specs.Index.{IsIndex}

-- behind the key of a name stands no other one of it
apart_from : {K : Type 0} (bytes : K → List ℕ) (name : List ℕ) (key k : K) → stands_for bytes name key ≡ true → same_key bytes key k ≡ false
    → same_name name (bytes k) ≡ false
apart_from bytes name key k is apart = sym (texts_ties name (bytes k)) ∙ nat_list_eq_equiv.congr name (bytes key) (bytes k) is ∙ apart

module _ {K V : Type 0} (bytes : K → List ℕ) (name : V → List ℕ) where
  -- the names of the values are those of the keys
  pub names_same : (es : List (K × V)) → IsIndex bytes name es → names_of bytes (keys_of es) ≡ map name (values_of es)
  names_same [] each = refl
  names_same (e ∷ es) each = λ i. each.0 i ∷ names_same es each.1 i

  pub distinct_values : (es : List (K × V)) → IsIndex bytes name es → IsDistinct (same_key bytes) (keys_of es)
      → IsDistinct same_name (map name (values_of es))
  distinct_values es each distinct = subst (IsDistinct same_name) (names_same es each) (distinct_names bytes (keys_of es) distinct)

  -- those stay whose names pass a test
  module _ (passes : List ℕ → Bool) where
    pub values_kept : (es : List (K × V)) → IsIndex bytes name es
        → values_of (filter (λ e. passes (bytes e.0)) es) ≡ filter (λ v. passes (name v)) (values_of es)
    values_kept [] each = refl
    values_kept (e ∷ es) each =
        let rest = values_kept es each.1 in
        ap (λ k. values_of (cond (passes k) (e ∷ filter (λ e. passes (bytes e.0)) es) (filter (λ e. passes (bytes e.0)) es))) each.0
        ∙ elim (passes (name e.1)) as (λ b. values_of (cond b (e ∷ filter (λ e. passes (bytes e.0)) es) (filter (λ e. passes (bytes e.0)) es))
        ≡ cond b (e.1 ∷ filter (λ v. passes (name v)) (values_of es)) (filter (λ v. passes (name v)) (values_of es))) [
          | true ↦ ap (λ vs. e.1 ∷ vs) rest
          | false ↦ rest
        ]

  pub index_kept : (test : K × V → Bool) (es : List (K × V)) → IsIndex bytes name es → IsIndex bytes name (filter test es)
  index_kept test [] each = tt
  index_kept test (e ∷ es) each =
      elim (test e) as (λ b. IsIndex bytes name (cond b (e ∷ filter test es) (filter test es))) [
        | true ↦ (each.0, index_kept test es each.1)
        | false ↦ index_kept test es each.1
      ]

  module _ (key : List ℕ) where
    pub has_value : (es : List (K × V)) → IsIndex bytes name es → is_some (lookup (stands_for bytes key) es) ≡ is_among key (map name (values_of es))
    has_value es each = is_there bytes key es ∙ ap (is_among key) (names_same es each)

    pub no_value : (es : List (K × V)) → IsIndex bytes name es → is_among key (map name (values_of es)) ≡ false → lookup (stands_for bytes key) es ≡ None
    no_value es each none = not_there bytes key es (ap (is_among key) (names_same es each) ∙ none)

    pub value_found : (es : List (K × V)) → IsIndex bytes name es → lookup (stands_for bytes key) es ≡ find (λ v. same_name key (name v)) (values_of es)
    value_found [] each = refl
    value_found (e ∷ es) each =
        ap (λ b. cond b (Some e.1) (lookup (stands_for bytes key) es)) (texts_ties key (bytes e.0) ∙ ap (same_name key) each.0)
        ∙ ap (λ rest. cond (same_name key (name e.1)) (Some e.1) rest) (value_found es each.1)

    values_filtered : (es : List (K × V)) → IsIndex bytes name es
        → values_of (filter (λ e. not (same_name key (bytes e.0))) es) ≡ filter (λ v. not (same_name key (name v))) (values_of es)
    values_filtered es each = values_kept (λ k. not (same_name key k)) es each

    -- one is removed, and the others keep their order
    pub values_removed : (es : List (K × V)) → IsIndex bytes name es → IsDistinct (same_key bytes) (keys_of es)
        → values_of (remove_entry (stands_for bytes key) es) ≡ filter (λ v. not (same_name key (name v))) (values_of es)
    values_removed es each distinct = ap values_of (removed bytes key es distinct) ∙ values_filtered es each

    -- a value is written at its name
    module _ (f : V → V) where
      others_stay : (k : K) (es : List (K × V)) → IsIndex bytes name es → stands_for bytes key k ≡ true
          → AllByRecursion (λ other. same_key bytes k other ≡ false) (keys_of es)
          → map (λ v. if same_name key (name v) then f v else v) (values_of es) ≡ values_of es
      others_stay k [] each is apart = refl
      others_stay k (e ∷ es) each is apart =
          let other : same_name key (name e.1) ≡ false = ap (same_name key) (sym each.0) ∙ apart_from bytes key k e.0 is apart.0 in
          ap (λ b. (if b then f e.1 else e.1) ∷ map (λ v. if same_name key (name v) then f v else v) (values_of es)) other
          ∙ ap (λ vs. e.1 ∷ vs) (others_stay k es each.1 is apart.1)

      pub values_written : (v : V) (es : List (K × V)) → IsIndex bytes name es → IsDistinct (same_key bytes) (keys_of es)
          → Some v ≡ lookup (stands_for bytes key) es
          → values_of (set_value (stands_for bytes key) es (f v)) ≡ map (λ v. if same_name key (name v) then f v else v) (values_of es)
      unfolding IsDistinct
      values_written v [] each distinct found = refl
      values_written v (e ∷ es) each distinct found =
          let rest = map (λ v. if same_name key (name v) then f v else v) (values_of es) in
          elim (stands_for bytes key e.0) as (λ b. stands_for bytes key e.0 ≡ b → Some v ≡ cond b (Some e.1) (lookup (stands_for bytes key) es)
          → values_of (cond b ((e.0, f v) ∷ es) (e ∷ set_value (stands_for bytes key) es (f v))) ≡ cond b (f e.1) e.1 ∷ rest) [
            | true ↦ λ is here. ap (λ x. f x ∷ values_of es) (same_Some v e.1 here) ∙ ap (λ vs. f e.1 ∷ vs) (sym (others_stay e.0 es each.1 is distinct.0))
            | false ↦ λ is there. ap (λ vs. e.1 ∷ vs) (values_written v es each.1 distinct.1 there)
          ] refl found
          ∙ ap (λ b. cond b (f e.1) e.1 ∷ rest) (texts_ties key (bytes e.0) ∙ ap (same_name key) each.0)

      pub values_unwritten : (es : List (K × V)) → IsIndex bytes name es → None ≡ lookup (stands_for bytes key) es
          → values_of es ≡ map (λ v. if same_name key (name v) then f v else v) (values_of es)
      values_unwritten [] each none = refl
      values_unwritten (e ∷ es) each none =
          let rest = map (λ v. if same_name key (name v) then f v else v) (values_of es) in
          elim (stands_for bytes key e.0) as (λ b. None ≡ cond b (Some e.1) (lookup (stands_for bytes key) es) → (e.1 ∷ values_of es) ≡ cond b (f e.1) e.1 ∷ rest) [
            | true ↦ λ here. absurd (cc)
            | false ↦ λ there. ap (λ vs. e.1 ∷ vs) (values_unwritten es each.1 there)
          ] none
          ∙ ap (λ b. cond b (f e.1) e.1 ∷ rest) (texts_ties key (bytes e.0) ∙ ap (same_name key) each.0)

      pub index_written : ((v : V) → name (f v) ≡ name v) → (v : V) (es : List (K × V)) → IsIndex bytes name es
          → Some v ≡ lookup (stands_for bytes key) es → IsIndex bytes name (set_value (stands_for bytes key) es (f v))
      index_written same v [] each found = tt
      index_written same v (e ∷ es) each found =
          elim (stands_for bytes key e.0) as (λ b. Some v ≡ cond b (Some e.1) (lookup (stands_for bytes key) es)
          → IsIndex bytes name (cond b ((e.0, f v) ∷ es) (e ∷ set_value (stands_for bytes key) es (f v)))) [
            | true ↦ λ here. (each.0 ∙ ap name (sym (same_Some v e.1 here)) ∙ sym (same v), each.1)
            | false ↦ λ there. (each.0, index_written same v es each.1 there)
          ] found

  pub index_removed : (test : K → Bool) (es : List (K × V)) → IsIndex bytes name es → IsIndex bytes name (remove_entry test es)
  index_removed test [] each = tt
  index_removed test (e ∷ es) each =
      elim (test e.0) as (λ b. IsIndex bytes name (cond b es (e ∷ remove_entry test es))) [ true ↦ each.1 | false ↦ (each.0, index_removed test es each.1) ]

  pub index_with : (es : List (K × V)) (k : K) (v : V) → IsIndex bytes name es → bytes k ≡ name v → IsIndex bytes name (es ++ (k, v) ∷ [])
  index_with [] k v each is = (is, tt)
  index_with (e ∷ es) k v each is = (each.0, index_with es k v each.1 is)

  -- one is put, in the place of the one of its name if that is there
  pub index_inserted : (es : List (K × V)) (k : K) (v : V) → IsIndex bytes name es → bytes k ≡ name v → IsIndex bytes name (insert_entry (same_key bytes) es k v)
  index_inserted [] k v each is = (is, tt)
  index_inserted (e ∷ es) k v each is =
      elim (same_key bytes k e.0) as (λ b. same_key bytes k e.0 ≡ b → IsIndex bytes name (if b then (e.0, v) ∷ es else e ∷ insert_entry (same_key bytes) es k v)) [
        | true ↦ λ same. (sym (same_name_is (bytes k) (bytes e.0) (sym (texts_ties (bytes k) (bytes e.0)) ∙ same)) ∙ is, each.1)
        | false ↦ λ other. (each.0, index_inserted es k v each.1 is)
      ] refl
