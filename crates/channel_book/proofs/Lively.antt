-- Channels with somebody in each, and one who joins or leaves.
use Rattle.std.proofs.Common.{◌≡◌, ℕ, List, [], ◌∷◌, ◌++◌, map, refl, sym, ap, ◌∙◌, Bool, true, false, cond}
use Rattle.std.specs.Prelude.{Some, None}
use Rattle.std.specs.declared.cmp.Ordering.TheVariants.{Less, Equal, Greater}
use Rattle.std.specs.List.Sorted.{IsStrictlySortedBy}
use Rattle.std.specs.FinMap.Entries.{by_order}
use Rattle.std.specs.BTreeMap.{is_at, insert_entry}
use Rattle.std.specs.Map.{lookup, set_value, remove_entry}
use Rattle.line_words.specs.Table.{name_cmp, all_but, put_name, change_name, map_values}
use Rattle.line_words.proofs.Tables.{name_cmp_total, lookup_is_find, insert_is_put, change_absent}
use Rattle.line_words.proofs.Written.{set_is_put, set_is_change, remove_entry-set_value}
use Rattle.channel_book.specs.Channels.{Channels, names_in, has_names, lively, joined, left, all_left}
use Rattle.channel_book.specs.Book.{AreLively}
use Rattle.channel_book.proofs.Found.{names_found, names_none}

pub lively_same : (channels : Channels) → AreLively channels → lively channels ≡ channels
lively_same [] lives = refl
lively_same (e ∷ es) lives = ap (λ b. cond b (e ∷ lively es) (lively es)) lives.0 ∙ ap (λ rest. e ∷ rest) (lively_same es lives.1)

pub AreLively-lively : (channels : Channels) → AreLively (lively channels)
AreLively-lively [] = tt
AreLively-lively (e ∷ es) =
    let rest = AreLively-lively es in
    elim (has_names e.1) as (λ b. has_names e.1 ≡ b → AreLively (cond b (e ∷ lively es) (lively es))) [ true ↦ λ t. (t, rest) | false ↦ λ t. rest ] refl

-- a channel with somebody in it
pub has_names-append : (names : List (List ℕ)) (name : List ℕ) → has_names (names ++ name ∷ []) ≡ true
has_names-append [] name = refl
has_names-append (n ∷ ns) name = refl

module _ (names : List (List ℕ)) (some : has_names names ≡ true) where
  AreLively-put_name : (channel : List ℕ) (channels : Channels) → AreLively channels → AreLively (put_name channels channel names)
  AreLively-put_name channel [] lives = (some, tt)
  AreLively-put_name channel (e ∷ es) lives =
      let rest = AreLively-put_name channel es lives.1 in
      elim (name_cmp channel e.0) as (λ r. AreLively (by_order r ((channel, names) ∷ e ∷ es) ((e.0, names) ∷ es) (e ∷ put_name es channel names))) [
        | Less ↦ (some, lives)
        | Equal ↦ (some, lives.1)
        | Greater ↦ (lives.0, rest)
      ]

  AreLively-set_value : (test : List ℕ → Bool) (channels : Channels) → AreLively channels → AreLively (set_value test channels names)
  AreLively-set_value test [] lives = tt
  AreLively-set_value test (e ∷ es) lives =
      let rest = AreLively-set_value test es lives.1 in
      elim (test e.0) as (λ b. AreLively (cond b ((e.0, names) ∷ es) (e ∷ set_value test es names))) [ true ↦ (some, lives.1) | false ↦ (lives.0, rest) ]

-- one that nobody is in any more
lively-set_value : (names : List (List ℕ)) → has_names names ≡ false → (test : List ℕ → Bool) (channels : Channels) → AreLively channels
    → lively (set_value test channels names) ≡ remove_entry test channels
lively-set_value names none test [] lives = refl
lively-set_value names none test (e ∷ es) lives =
    let rest = lively-set_value names none test es lives.1 in
    elim (test e.0) as (λ b. lively (cond b ((e.0, names) ∷ es) (e ∷ set_value test es names)) ≡ cond b es (e ∷ remove_entry test es)) [
      | true ↦ ap (λ b. cond b ((e.0, names) ∷ lively es) (lively es)) none ∙ lively_same es lives.1
      | false ↦ ap (λ b. cond b (e ∷ lively (set_value test es names)) (lively (set_value test es names))) lives.0 ∙ ap (λ kept. e ∷ kept) rest
    ]

-- one joins a channel
module _ (channels : Channels) (channel name : List ℕ) where
  pub AreLively-joined : AreLively channels → AreLively (joined channel name channels)
  AreLively-joined lives = AreLively-put_name (names_in channels channel ++ name ∷ []) (has_names-append (names_in channels channel) name) channel channels lives

  pub joined_others : (names now : List (List ℕ)) → IsStrictlySortedBy name_cmp (map (λ e. e.0) channels) → Some names ≡ lookup (is_at (name_cmp channel)) channels
      → now ≡ names ++ name ∷ [] → set_value (is_at (name_cmp channel)) channels now ≡ joined channel name channels
  joined_others names now rising found is =
      set_is_put name_cmp name_cmp_total channel names now channels rising (sym found)
      ∙ ap (put_name channels channel) (is ∙ ap (λ ns. ns ++ name ∷ []) (names_found channels channel names found))

  pub joined_first : (names : List (List ℕ)) → None ≡ lookup (is_at (name_cmp channel)) channels → names ≡ name ∷ []
      → insert_entry name_cmp channels channel names ≡ joined channel name channels
  joined_first names none is =
      insert_is_put name_cmp channels channel names
      ∙ ap (put_name channels channel) (is ∙ ap (λ ns. ns ++ name ∷ []) (names_none channels channel none))

-- one leaves a channel
module _ (channels : Channels) (channel name : List ℕ) (lives : AreLively channels) where
  pub AreLively-left : AreLively (left channel name channels)
  AreLively-left = AreLively-lively (change_name channels channel (all_but name))

  pub left_none : None ≡ lookup (is_at (name_cmp channel)) channels → channels ≡ left channel name channels
  left_none none =
      sym (lively_same channels lives)
      ∙ ap lively (sym (change_absent name_cmp (all_but name) channels channel (sym (lookup_is_find name_cmp channel channels) ∙ sym none)))

  module _ (names now : List (List ℕ)) (rising : IsStrictlySortedBy name_cmp (map (λ e. e.0) channels))
      (found : Some names ≡ lookup (is_at (name_cmp channel)) channels) (is : now ≡ all_but name names) where
    changed : set_value (is_at (name_cmp channel)) channels now ≡ change_name channels channel (all_but name)
    changed = ap (set_value (is_at (name_cmp channel)) channels) is ∙ set_is_change name_cmp name_cmp_total (all_but name) channel names channels rising (sym found)

    pub left_stays : has_names (all_but name names) ≡ true → set_value (is_at (name_cmp channel)) channels now ≡ left channel name channels
    left_stays some =
        sym (lively_same _ (AreLively-set_value now (ap has_names is ∙ some) (is_at (name_cmp channel)) channels lives)) ∙ ap lively changed

    pub left_empty : has_names (all_but name names) ≡ false
        → remove_entry (is_at (name_cmp channel)) (set_value (is_at (name_cmp channel)) channels now) ≡ left channel name channels
    left_empty none =
        remove_entry-set_value (is_at (name_cmp channel)) now channels
        ∙ sym (lively-set_value now (ap has_names is ∙ none) (is_at (name_cmp channel)) channels lives) ∙ ap lively changed

pub AreLively-all_left : (name : List ℕ) (channels : Channels) → AreLively (all_left name channels)
AreLively-all_left name channels = AreLively-lively (map_values (λ channel names. all_but name names) channels)
