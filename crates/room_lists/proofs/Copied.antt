-- Items of distinct keys, put one after another, come in their order.
use Rattle.std.proofs.Common.{◌≡◌, ℕ, List, [], ◌∷◌, ◌++◌, map, refl, sym, ap, subst, ◌∙◌, false, append_assoc, append-nil}
use Rattle.std.specs.Prelude.{if◌then◌else◌}
use Rattle.std.specs.List.{IsDistinct, AllByRecursion}
use Rattle.line_words.specs.Table.{same_name}
use Rattle.line_words.proofs.Once.{apart_either_way}
use Rattle.room_lists.specs.Keyed.{with_item, with_items}

module _ {T : Type 0} (key_of : T → List ℕ) where
  apart_in : (key : List ℕ) (items : List T) (item : T) (more : List T)
      → AllByRecursion (λ other. same_name key other ≡ false) (map key_of (items ++ item ∷ more)) → same_name key (key_of item) ≡ false
  apart_in key [] item more all = all.0
  apart_in key (t ∷ items) item more all = apart_in key items item more all.1

  comes_last : (items : List T) (item : T) (more : List T) → IsDistinct same_name (map key_of (items ++ item ∷ more)) → with_item key_of items item ≡ items ++ item ∷ []
  unfolding IsDistinct
  comes_last [] item more distinct = refl
  comes_last (t ∷ items) item more distinct =
      ap (λ b. if b then item ∷ items else t ∷ with_item key_of items item)
      (apart_either_way (key_of t) (key_of item) (apart_in (key_of t) items item more distinct.0))
      ∙ ap (λ ts. t ∷ ts) (comes_last items item more distinct.1)

  come_behind : (items more : List T) → IsDistinct same_name (map key_of (items ++ more)) → with_items key_of items more ≡ items ++ more
  come_behind items [] distinct = sym (append-nil items)
  come_behind items (item ∷ more) distinct =
      ap (λ ts. with_items key_of ts more) (comes_last items item more distinct)
      ∙ come_behind (items ++ item ∷ []) more (subst (λ (ts : List T). IsDistinct same_name (map key_of ts)) (sym (append_assoc items (item ∷ []) more)) distinct)
      ∙ append_assoc items (item ∷ []) more

  pub copied : (items : List T) → IsDistinct same_name (map key_of items) → with_items key_of [] items ≡ items
  copied items distinct = come_behind [] items distinct
