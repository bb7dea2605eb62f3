-- Items in order of first putting, each found by its key.
use Rattle.std.specs.Prelude.{◌≡◌, ◌<◌, ◌≤◌, ℕ, Bool, not, if◌then◌else◌, List, [], ◌∷◌, filter, map, length, Option}
use Rattle.std.specs.Prelude.{Some, None, Vec}
use Rattle.std.specs.declared.alloc.Global.{Global}
use Rattle.std.specs.Borrow.{Bor}
use Rattle.std.specs.List.{AllByRecursion, list_any, position_or_len}
use Rattle.line_words.specs.Table.{same_name}

-- items that are kept as their keys and what there is beside
module _ {T X : Type 0} (whole : List ℕ → X → T) where
  abbrev pub items_of : List (List ℕ × X) → List T
  items_of entries = map (λ e. whole e.0 e.1) entries

module _ {T : Type 0} (key_of : T → List ℕ) where
  -- each stands behind its own key
  abbrev pub AreKept : {X : Type 0} → (List ℕ → X → T) → List (List ℕ × X) → Type 0
  AreKept whole entries = AllByRecursion (λ e. e.0 ≡ key_of (whole e.0 e.1)) entries

  abbrev pub has_key : List ℕ → List T → Bool
  has_key key items = list_any (λ t. same_name key (key_of t)) items

  -- how many items stand before the one of a key
  abbrev pub place_of : List ℕ → List T → ℕ
  place_of key items = position_or_len (λ t. same_name key (key_of t)) items

  -- a key that is there keeps its place
  abbrev pub with_item : List T → T → List T
  with_item [] item = item ∷ []
  with_item (t ∷ items) item = if same_name (key_of item) (key_of t) then item ∷ items else t ∷ with_item items item

  -- a later item of one key wins
  abbrev pub with_items : List T → List T → List T
  with_items items [] = items
  with_items items (item ∷ more) = with_items (with_item items item) more

  abbrev pub without_key : List ℕ → List T → List T
  without_key key items = filter (λ t. not (same_name key (key_of t))) items

  abbrev pub without_keys : List T → List (List ℕ) → List T
  without_keys items [] = items
  without_keys items (key ∷ keys) = without_keys (without_key key items) keys

  -- the keys that are there, each once, in the order of the list of keys
  abbrev pub keys_there : List T → List (List ℕ) → List (List ℕ)
  keys_there items [] = []
  keys_there items (key ∷ keys) = if has_key key items then key ∷ keys_there (without_key key items) keys
      else keys_there items keys

  -- items of these keys, or none where the keys are more than so many
  abbrev pub AreFirsts : ℕ → List (List ℕ) → Option (Vec (Bor T) Global) → Type 0
  AreFirsts most keys None = most < length keys
  AreFirsts most keys (Some firsts) = (map (λ first. key_of first.now) firsts.items ≡ keys) × (length keys ≤ most)
