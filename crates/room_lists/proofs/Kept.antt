-- Items that are kept as their keys and what there is beside.
use Rattle.std.proofs.Common.{◌≡◌, ◌≤◌, ◌+◌, ℕ, suc, List, [], ◌∷◌, ◌++◌, refl, sym, ap, subst, ◌∙◌, Bool, true, false, cond, not, length, map, filter, is_some, arith}
use Rattle.std.specs.Prelude.{◌||◌, if◌then◌else◌, Some}
use Rattle.std.specs.Cmp.Lexicographic.{texts_ties}
use Rattle.std.specs.List.{IsDistinct, position_or_len}
use Rattle.std.specs.Map.{lookup, remove_entry, keys_of}
use Rattle.std.proofs.lemmas.List.{map-append}
use Rattle.indexmap.specs.IndexMap.{insert_entry}
use Rattle.line_words.specs.Table.{same_name}
use Rattle.line_words.proofs.Tables.{same_name_is}
use Rattle.line_words.proofs.Keyed.{same_key, stands_for, distinct_names, removed}
use Rattle.room_lists.specs.Keyed.{AreKept, items_of, has_key, place_of, with_item, with_items, without_key}
use Rattle.room_lists.proofs.Entries.{with_both}

-- a key is its own bytes
abbrev pub own : List ℕ → List ℕ
own key = key

module _ {T X : Type 0} (key_of : T → List ℕ) (whole : List ℕ → X → T) where
  names_kept : (es : List (List ℕ × X)) → AreKept key_of whole es → map own (keys_of es) ≡ map key_of (items_of whole es)
  names_kept [] each = refl
  names_kept (e ∷ es) each = λ i. each.0 i ∷ names_kept es each.1 i

  pub distinct_kept : (es : List (List ℕ × X)) → AreKept key_of whole es → IsDistinct (same_key own) (keys_of es)
      → IsDistinct same_name (map key_of (items_of whole es))
  distinct_kept es each distinct = subst (IsDistinct same_name) (names_kept es each) (distinct_names own (keys_of es) distinct)

  -- those stay whose keys pass a test
  pub items_kept : (passes : List ℕ → Bool) (es : List (List ℕ × X)) → AreKept key_of whole es
      → items_of whole (filter (λ e. passes e.0) es) ≡ filter (λ t. passes (key_of t)) (items_of whole es)
  items_kept passes [] each = refl
  items_kept passes (e ∷ es) each =
      let rest = items_kept passes es each.1 in
      ap (λ k. items_of whole (cond (passes k) (e ∷ filter (λ e. passes e.0) es) (filter (λ e. passes e.0) es))) each.0
      ∙ elim (passes (key_of (whole e.0 e.1))) as (λ b. items_of whole (cond b (e ∷ filter (λ e. passes e.0) es) (filter (λ e. passes e.0) es))
      ≡ cond b (whole e.0 e.1 ∷ filter (λ t. passes (key_of t)) (items_of whole es)) (filter (λ t. passes (key_of t)) (items_of whole es))) [
        | true ↦ ap (λ ts. whole e.0 e.1 ∷ ts) rest
        | false ↦ rest
      ]

  pub some_kept : (test : List ℕ × X → Bool) (es : List (List ℕ × X)) → AreKept key_of whole es → AreKept key_of whole (filter test es)
  some_kept test [] each = tt
  some_kept test (e ∷ es) each =
      elim (test e) as (λ b. AreKept key_of whole (cond b (e ∷ filter test es) (filter test es))) [
        | true ↦ (each.0, some_kept test es each.1)
        | false ↦ some_kept test es each.1
      ]

  module _ (key : List ℕ) where
    pub has_kept : (es : List (List ℕ × X)) → AreKept key_of whole es → is_some (lookup (stands_for own key) es) ≡ has_key key_of key (items_of whole es)
    has_kept [] each = refl
    has_kept (e ∷ es) each =
        ap (λ b. is_some (cond b (Some e.1) (lookup (stands_for own key) es))) (texts_ties key e.0 ∙ ap (same_name key) each.0)
        ∙ elim (same_name key (key_of (whole e.0 e.1))) as (λ b. is_some (cond b (Some e.1) (lookup (stands_for own key) es))
        ≡ (b || has_key key_of key (items_of whole es))) [
          | true ↦ refl
          | false ↦ has_kept es each.1
        ]

    -- the place in an index is that among its items
    pub place_kept : (es : List (List ℕ × X)) → AreKept key_of whole es → position_or_len (stands_for own key) (keys_of es) ≡ place_of key_of key (items_of whole es)
    place_kept [] each = refl
    place_kept (e ∷ es) each =
        ap (λ b. cond (not b) (1 + position_or_len (stands_for own key) (keys_of es)) 0) (texts_ties key e.0 ∙ ap (same_name key) each.0)
        ∙ ap (λ n. cond (not (same_name key (key_of (whole e.0 e.1)))) (1 + n) 0) (place_kept es each.1)

    -- one is removed, and the others keep their order
    pub items_removed : (es : List (List ℕ × X)) → AreKept key_of whole es → IsDistinct (same_key own) (keys_of es)
        → items_of whole (remove_entry (stands_for own key) es) ≡ without_key key_of key (items_of whole es)
    items_removed es each distinct = ap (items_of whole) (removed own key es distinct) ∙ items_kept (λ k. not (same_name key k)) es each

  pub kept_removed : (test : List ℕ → Bool) (es : List (List ℕ × X)) → AreKept key_of whole es → AreKept key_of whole (remove_entry test es)
  kept_removed test [] each = tt
  kept_removed test (e ∷ es) each =
      elim (test e.0) as (λ b. AreKept key_of whole (cond b es (e ∷ remove_entry test es))) [ true ↦ each.1 | false ↦ (each.0, kept_removed test es each.1) ]

  pub kept_with : (es : List (List ℕ × X)) (k : List ℕ) (x : X) → AreKept key_of whole es → k ≡ key_of (whole k x) → AreKept key_of whole (es ++ (k, x) ∷ [])
  kept_with [] k x each is = (is, tt)
  kept_with (e ∷ es) k x each is = (each.0, kept_with es k x each.1 is)

  -- one is put, in the place of the one of its key if that is there
  pub kept_inserted : (es : List (List ℕ × X)) (k : List ℕ) (x : X) → AreKept key_of whole es → k ≡ key_of (whole k x)
      → AreKept key_of whole (insert_entry (same_key own) es k x)
  kept_inserted [] k x each is = (is, tt)
  kept_inserted (e ∷ es) k x each is =
      elim (same_key own k e.0) as (λ b. same_key own k e.0 ≡ b → AreKept key_of whole (if b then (e.0, x) ∷ es else e ∷ insert_entry (same_key own) es k x)) [
        | true ↦ λ same. (subst (λ n. n ≡ key_of (whole n x)) (same_name_is k e.0 (sym (texts_ties k e.0) ∙ same)) is, each.1)
        | false ↦ λ other. (each.0, kept_inserted es k x each.1 is)
      ] refl

  pub item_put : (es : List (List ℕ × X)) (k : List ℕ) (x : X) → AreKept key_of whole es → k ≡ key_of (whole k x)
      → items_of whole (insert_entry (same_key own) es k x) ≡ with_item key_of (items_of whole es) (whole k x)
  item_put [] k x each is = refl
  item_put (e ∷ es) k x each is =
      let item = whole k x in
      let first = whole e.0 e.1 in
      let items = items_of whole es in
      let tie : same_name (key_of item) (key_of first) ≡ same_key own k e.0 =
      ap (λ n. same_name n (key_of first)) (sym is) ∙ ap (same_name k) (sym each.0) ∙ sym (texts_ties k e.0) in
      elim (same_key own k e.0) as (λ b. same_key own k e.0 ≡ b
      → items_of whole (if b then (e.0, x) ∷ es else e ∷ insert_entry (same_key own) es k x)
      ≡ (if same_name (key_of item) (key_of first) then item ∷ items else first ∷ with_item key_of items item)) [
        | true ↦ λ same.
            ap (λ n. whole n x ∷ items) (sym (same_name_is k e.0 (sym (texts_ties k e.0) ∙ same)))
            ∙ sym (ap (λ b. if b then item ∷ items else first ∷ with_item key_of items item) (tie ∙ same))
        | false ↦ λ other.
            ap (λ ts. first ∷ ts) (item_put es k x each.1 is)
            ∙ sym (ap (λ b. if b then item ∷ items else first ∷ with_item key_of items item) (tie ∙ other))
      ] refl

  -- the next of some entries is put among those that stand in an index
  module _ (items : List T) (es done rest left new : List (List ℕ × X)) (k : List ℕ) (x : X) (spare now : ℕ)
      (keys : AreKept key_of whole es) (rest_keys : AreKept key_of whole rest) (said : items_of whole es ≡ with_items key_of items (items_of whole done))
      (fits : length rest ≤ spare) (next : rest ≡ (k, x) ∷ left) (is : new ≡ insert_entry (same_key own) es k x) (room : spare ≤ now + 1) where
    of_next : AreKept key_of whole ((k, x) ∷ left)
    of_next = subst (AreKept key_of whole) next rest_keys

    pub put_next : AreKept key_of whole new × AreKept key_of whole left
        × (items_of whole new ≡ with_items key_of items (items_of whole (done ++ (k, x) ∷ []))) × (length left ≤ now)
    put_next = (
      subst (AreKept key_of whole) (sym is) (kept_inserted es k x keys of_next.0),
      of_next.1,
      ap (items_of whole) is ∙ item_put es k x keys of_next.0 ∙ ap (λ ts. with_item key_of ts (whole k x)) said
          ∙ sym (with_both key_of items (items_of whole done) (whole k x ∷ []))
          ∙ ap (with_items key_of items) (sym (map-append (λ e. whole e.0 e.1) done ((k, x) ∷ []))),
      (let one : length rest ≡ suc (length left) = ap length next in omega arith),
    )
