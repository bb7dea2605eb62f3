-- The channels of each user, which the book keeps beside the channels.
use Rattle.std.specs.Prelude.{ℕ, nat_eq, List, [], if◌then◌else◌, fold, Option, Some, None}
use Rattle.std.specs.BTreeMap.{is_at}
use Rattle.std.specs.BTreeSet.{BTreeSet, insert_key}
use Rattle.std.specs.Set.{remove_key}
use Rattle.std.specs.Cmp.Lexicographic.{pointwise}
use Rattle.std.specs.Map.{keys_of, lookup}
use Rattle.line_words.specs.Table.{ByName, name_cmp, same_name}
use Rattle.channel_book.specs.Channels.{Channels, channels_of, left}

-- for each user the names of channels, in the order of their bytes
abbrev pub Places : Type 0
Places = List ℕ → List (List ℕ)

-- the names of the channels that each is in
abbrev pub places_in : Channels → Places
places_in channels user = keys_of (channels_of user channels)

-- the names in a set; none, where there is no set
abbrev pub listed : Option (BTreeSet (List ℕ)) → List (List ℕ)
listed None = []
listed (Some names) = names.keys

-- those in an index from users to sets
abbrev pub places_of : ByName (BTreeSet (List ℕ)) → Places
places_of sets user = listed (lookup (pointwise nat_eq user) sets)

-- with a channel of a user's, without it, and without all of a user's
abbrev pub with_place : List ℕ → List ℕ → Places → Places
with_place channel name places user = if same_name name user then insert_key name_cmp (places name) channel
    else places user

abbrev pub without_place : List ℕ → List ℕ → Places → Places
without_place channel name places user = if same_name name user
    then remove_key (is_at (name_cmp channel)) (places name) else places user

abbrev pub without_user : List ℕ → Places → Places
without_user name places user = if same_name name user then [] else places user

-- the channels after one left those of these names, one by one
abbrev pub left_each : List ℕ → List (List ℕ) → Channels → Channels
left_each name names channels = fold (λ rest channel. left channel name rest) channels names
