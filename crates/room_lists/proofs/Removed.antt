-- Keys that go one by one go at once.
use Rattle.std.proofs.Common.{◌≡◌, ℕ, List, [], ◌∷◌, refl, sym, ap, ◌∙◌, true, false, not}
use Rattle.std.specs.Prelude.{◌||◌, if◌then◌else◌, filter}
use Rattle.line_words.specs.Table.{same_name, is_among}
use Rattle.line_words.proofs.Once.{same_name_equiv}
use Rattle.room_lists.specs.Keyed.{has_key, keys_there, without_key, without_keys}

module _ {T : Type 0} (key_of : T → List ℕ) where
  both_go : (key : List ℕ) (keys : List (List ℕ)) (items : List T)
      → filter (λ t. not (is_among (key_of t) keys)) (without_key key_of key items) ≡ filter (λ t. not (is_among (key_of t) (key ∷ keys))) items
  both_go key keys [] = refl
  both_go key keys (t ∷ items) =
      let rest = both_go key keys items in
      let after = filter (λ t. not (is_among (key_of t) (key ∷ keys))) items in
      elim (same_name key (key_of t)) as (λ b. filter (λ t. not (is_among (key_of t) keys)) (if not b then t ∷ without_key key_of key items else without_key key_of key items)
      ≡ (if not (b || is_among (key_of t) keys) then t ∷ after else after)) [
        | true ↦ rest
        | false ↦ ap (λ ts. if not (is_among (key_of t) keys) then t ∷ ts else ts) rest
      ]
      ∙ ap (λ b. if not (b || is_among (key_of t) keys) then t ∷ after else after) (same_name_equiv.symm key (key_of t))

  pub without_all : (keys : List (List ℕ)) (items : List T) → without_keys key_of items keys ≡ filter (λ t. not (is_among (key_of t) keys)) items
  without_all [] items = all_stay items
    where
      all_stay : (items : List T) → items ≡ filter (λ t. not (is_among (key_of t) [])) items
      all_stay [] = refl
      all_stay (t ∷ items) = ap (λ ts. t ∷ ts) (all_stay items)
  without_all (key ∷ keys) items = without_all keys (without_key key_of key items) ∙ both_go key keys items

  none_goes : (key : List ℕ) (items : List T) → has_key key_of key items ≡ false → without_key key_of key items ≡ items
  none_goes key [] none = refl
  none_goes key (t ∷ items) none =
      elim (same_name key (key_of t)) as (λ b. (b || has_key key_of key items) ≡ false
      → (if not b then t ∷ without_key key_of key items else without_key key_of key items) ≡ t ∷ items) [
        | true ↦ λ never. absurd (cc)
        | false ↦ λ rest. ap (λ ts. t ∷ ts) (none_goes key items rest)
      ] none

  -- those that are there, alone, come to the same
  pub there_alone : (keys : List (List ℕ)) (items : List T) → without_keys key_of items (keys_there key_of items keys) ≡ without_keys key_of items keys
  there_alone [] items = refl
  there_alone (key ∷ keys) items =
      elim (has_key key_of key items) as (λ b. has_key key_of key items ≡ b
      → without_keys key_of items (if b then key ∷ keys_there key_of (without_key key_of key items) keys else keys_there key_of items keys)
      ≡ without_keys key_of (without_key key_of key items) keys) [
        | true ↦ λ there. there_alone keys (without_key key_of key items)
        | false ↦ λ none. there_alone keys items ∙ ap (λ ts. without_keys key_of ts keys) (sym (none_goes key items none))
      ] refl
