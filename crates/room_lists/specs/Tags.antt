-- Script tags: keys with their values, in order of first setting.
use Rattle.std.specs.Prelude.{ℕ, Bool, List}
use Rattle.line_words.specs.declared.lists.Pair.{Pair}
use Rattle.room_lists.specs.Keyed as keyed

abbrev pub tag_key : Pair → List ℕ
tag_key tag = tag.key

abbrev pub has_tag : List ℕ → List Pair → Bool
has_tag = keyed.has_key tag_key

-- a key that is there keeps its place
abbrev pub with_tag : List Pair → Pair → List Pair
with_tag = keyed.with_item tag_key

-- a later pair of one key wins
abbrev pub with_tags : List Pair → List Pair → List Pair
with_tags = keyed.with_items tag_key

abbrev pub without_tag : List ℕ → List Pair → List Pair
without_tag = keyed.without_key tag_key

abbrev pub without_tags : List Pair → List (List ℕ) → List Pair
without_tags = keyed.without_keys tag_key

-- the keys that are there, each once, in the order of the list of keys
abbrev pub keys_there : List Pair → List (List ℕ) → List (List ℕ)
keys_there = keyed.keys_there tag_key
