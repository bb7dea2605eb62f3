-- Values in an index by their names, and one that is found by its name.
use Rattle.std.proofs.Common.{◌≡◌, ℕ, List, [], ◌∷◌, ◌++◌, refl, sym, ap, subst, ◌∙◌, true, false, not, filter, nat_eq}
use Rattle.std.specs.Prelude.{◌||◌, if◌then◌else◌, map, find, is_some, Some, None}
use Rattle.std.specs.Cmp.Lexicographic.{pointwise}
use Rattle.std.specs.List.{IsDistinct}
use Rattle.std.specs.Map.{remove_entry, keys_of, values_of}
use Rattle.std.proofs.lemmas.List.{map-append}
use Rattle.indexmap.specs.IndexMap.{IndexMap, insert_entry}
use Rattle.indexmap.proofs.CallerLemmas.{insert_entry-new}
use Rattle.line_words.specs.Table.{same_name, is_among}
use Rattle.room_lists.specs.Index.{IsIndex}
use Rattle.room_lists.proofs.Indexed.{index_removed, index_with, no_value, values_removed}

-- values in an index by their names, without the one of a name
module _ {V : Type 0} (key : V → List ℕ) (name : List ℕ) (old new : List (List ℕ × V)) (each : IsIndex (λ (n : List ℕ). n) key old)
    (is : new ≡ remove_entry (pointwise nat_eq name) old) where
  pub index_left : IsIndex (λ (n : List ℕ). n) key new
  index_left = subst (IsIndex (λ (n : List ℕ). n) key) (sym is) (index_removed (λ (n : List ℕ). n) key (pointwise nat_eq name) old each)

  pub values_left : (view : List V) → values_of old ≡ view → IsDistinct (pointwise nat_eq) (keys_of old)
      → values_of new ≡ filter (λ v. not (same_name name (key v))) view
  values_left view seen distinct =
      ap values_of is ∙ values_removed (λ (n : List ℕ). n) key name old each distinct
      ∙ ap (λ (vs : List V). filter (λ v. not (same_name name (key v))) vs) seen

-- one whose name is not there is added behind the others
module _ {V S : Type 0} (key : V → List ℕ) (m : IndexMap (List ℕ) V S) (name : List ℕ) (v : V) (new : List (List ℕ × V)) (each : IsIndex (λ (n : List ℕ). n) key m.entries)
    (view : List V) (seen : values_of m.entries ≡ view) (none : is_among name (map key view) ≡ false) (is : new ≡ insert_entry (pointwise nat_eq) m.entries name v) where
  new_last : new ≡ m.entries ++ (name, v) ∷ []
  new_last =
      let out : is_among name (map key (values_of m.entries)) ≡ false = ap (λ (vs : List V). is_among name (map key vs)) seen ∙ none in
      is ∙ insert_entry-new (pointwise nat_eq) m name v (no_value (λ (n : List ℕ). n) key name m.entries each out)

  pub index_more : name ≡ key v → IsIndex (λ (n : List ℕ). n) key new
  index_more same = subst (IsIndex (λ (n : List ℕ). n) key) (sym new_last) (index_with (λ (n : List ℕ). n) key m.entries name v each same)

  pub values_more : values_of new ≡ view ++ v ∷ []
  values_more = ap values_of new_last ∙ map-append (λ e. e.1) m.entries ((name, v) ∷ []) ∙ ap (λ (vs : List V). vs ++ v ∷ []) seen

module _ {V : Type 0} (key : V → List ℕ) (name : List ℕ) where
  pub found_is_among : (vs : List V) → is_some (find (λ v. same_name name (key v)) vs) ≡ is_among name (map key vs)
  found_is_among [] = refl
  found_is_among (v ∷ vs) =
      let rest = found_is_among vs in
      elim (same_name name (key v)) as (λ b. is_some (if b then Some v else find (λ v. same_name name (key v)) vs) ≡ (b || is_among name (map key vs))) [
        | true ↦ refl
        | false ↦ rest
      ]

  pub all_left : (vs : List V) → None ≡ find (λ v. same_name name (key v)) vs → filter (λ v. not (same_name name (key v))) vs ≡ vs
  all_left [] none = refl
  all_left (v ∷ vs) none =
      elim (same_name name (key v)) as (λ b. None ≡ (if b then Some v else find (λ v. same_name name (key v)) vs)
      → (if not b then v ∷ filter (λ v. not (same_name name (key v))) vs else filter (λ v. not (same_name name (key v))) vs) ≡ v ∷ vs) [
        | true ↦ λ found. absurd (cc)
        | false ↦ λ rest. ap (λ us. v ∷ us) (all_left vs rest)
      ] none
