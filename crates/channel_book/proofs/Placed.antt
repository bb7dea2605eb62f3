-- The channels of each user, as one joins and leaves.
use Rattle.std.proofs.Common.{◌≡◌, ℕ, List, [], ◌∷◌, ◌++◌, filter, refl, sym, ap, subst, ◌∙◌, Bool, true, false, cond, not, is_eq, Less, Equal, Greater}
use Rattle.std.specs.Prelude.{◌||◌, Some, None}
use Rattle.std.specs.Ordering.{match_ordering, ordering_reverse}
use Rattle.std.specs.Cmp.{both_ways}
use Rattle.std.specs.List.{AllByRecursion}
use Rattle.std.specs.List.Sorted.{IsStrictlySortedBy}
use Rattle.std.specs.FinMap.Entries.{by_order}
use Rattle.std.specs.BTreeMap.{is_at}
use Rattle.std.specs.BTreeSet.{insert_key}
use Rattle.std.specs.Set.{remove_key}
use Rattle.std.specs.Map.{keys_of}
use Rattle.line_words.specs.Table.{name_cmp, same_name, is_among, all_but, at_name, put_name, change_name, map_values}
use Rattle.line_words.proofs.Tables.{name_cmp_total, name_cmp_same, same_name_is, same_name_itself, change_absent}
use Rattle.channel_book.specs.Channels.{Channels, names_of, names_in, has_names, lively, joined, left, all_left}
use Rattle.channel_book.specs.Book.{AreLively}
use Rattle.channel_book.specs.Places.{Places, places_in, with_place, without_place, without_user, left_each}
use Rattle.channel_book.proofs.Lively.{lively_same}
use Rattle.line_words.proofs.Once.{out_of_but}

pub same_name_sym : (a b : List ℕ) → same_name a b ≡ same_name b a
same_name_sym a b =
    both_ways (same_name a b) (same_name b a)
    (λ e. ap (λ x. same_name b x) (same_name_is a b e) ∙ same_name_itself b) (λ e. ap (λ x. same_name a x) (same_name_is b a e) ∙ same_name_itself a)

-- names that all stand above one
abbrev IsBelow : List ℕ → List (List ℕ) → Type 0
IsBelow x names = AllByRecursion (λ y. name_cmp x y ≡ Less) names

below_more : (x y : List ℕ) (names : List (List ℕ)) → name_cmp x y ≡ Less → IsBelow y names → IsBelow x names
below_more x y [] t h = tt
below_more x y (n ∷ ns) t h = (name_cmp_total.trans x y n t h.0, below_more x y ns t h.1)

below_none : (x : List ℕ) (names : List (List ℕ)) → IsBelow x names → is_among x names ≡ false
below_none x [] h = refl
below_none x (n ∷ ns) h = ap (λ r. is_eq r || is_among x ns) h.0 ∙ below_none x ns h.1

first : (x : List ℕ) (names : List (List ℕ)) → IsBelow x names → insert_key name_cmp names x ≡ x ∷ names
first x [] h = refl
first x (n ∷ ns) h = ap (λ r. match_ordering r (x ∷ n ∷ ns) (n ∷ ns) (n ∷ insert_key name_cmp ns x)) h.0

not_removed : (x : List ℕ) (names : List (List ℕ)) → IsBelow x names → remove_key (is_at (name_cmp x)) names ≡ names
not_removed x [] h = refl
not_removed x (n ∷ ns) h =
    ap (λ r. cond (is_eq r) ns (n ∷ remove_key (is_at (name_cmp x)) ns)) h.0 ∙ ap (λ rest. n ∷ rest) (not_removed x ns h.1)

absent : (channel : List ℕ) (channels : Channels) → IsBelow channel (keys_of channels) → at_name channels channel ≡ None
absent channel [] h = refl
absent channel (e ∷ es) h = ap (λ r. cond (is_eq r) (Some e.1) (at_name es channel)) h.0 ∙ absent channel es h.1

-- a name that goes in and out again
taken_back : (x : List ℕ) (names : List (List ℕ)) → is_among x names ≡ false → remove_key (is_at (name_cmp x)) (insert_key name_cmp names x) ≡ names
taken_back x [] none = ap (λ b. cond b [] (x ∷ [])) (same_name_itself x)
taken_back x (n ∷ ns) none =
    elim (name_cmp x n) as (λ r. name_cmp x n ≡ r → (is_eq r || is_among x ns) ≡ false
    → remove_key (is_at (name_cmp x)) (match_ordering r (x ∷ n ∷ ns) (n ∷ ns) (n ∷ insert_key name_cmp ns x)) ≡ n ∷ ns) [
      | Less ↦ λ t h. ap (λ b. cond b (n ∷ ns) (x ∷ remove_key (is_at (name_cmp x)) (n ∷ ns))) (same_name_itself x)
      | Equal ↦ λ t h. absurd (cc)
      | Greater ↦ λ t h.
          ap (λ r. cond (is_eq r) (insert_key name_cmp ns x) (n ∷ remove_key (is_at (name_cmp x)) (insert_key name_cmp ns x))) t
          ∙ ap (λ rest. n ∷ rest) (taken_back x ns h)
    ] refl none

pub undone : (channel name : List ℕ) (places : Places) → is_among channel (places name) ≡ false → without_place channel name (with_place channel name places) ≡ places
undone channel name places none = λ i user. back user i
  where
    back : (user : List ℕ) → without_place channel name (with_place channel name places) user ≡ places user
    back user =
        elim (same_name name user) as (λ b. same_name name user ≡ b
        → cond b (remove_key (is_at (name_cmp channel)) (with_place channel name places name)) (with_place channel name places user) ≡ places user) [
          | true ↦ λ t.
              ap (λ b. remove_key (is_at (name_cmp channel)) (cond b (insert_key name_cmp (places name) channel) (places name))) (same_name_itself name)
              ∙ taken_back channel (places name) none
              ∙ ap places (same_name_is name user t)
          | false ↦ λ t. ap (λ b. cond b (insert_key name_cmp (places name) channel) (places user)) t
        ] refl

-- the names of the channels whose members pass a test
module _ (p : List (List ℕ) → Bool) where
  abbrev picked : Channels → Channels
  picked channels = filter (λ e. p e.1) channels

  below_picked : (x : List ℕ) (channels : Channels) → IsBelow x (keys_of channels) → IsBelow x (keys_of (picked channels))
  below_picked x [] h = tt
  below_picked x (e ∷ es) h =
      let rest = below_picked x es h.1 in
      elim (p e.1) as (λ b. IsBelow x (keys_of (cond b (e ∷ picked es) (picked es)))) [ true ↦ (h.0, rest) | false ↦ rest ]

  -- each value changed, and the test with it not
  same_keys : (f : List ℕ → List (List ℕ) → List (List ℕ)) → ((channel : List ℕ) (names : List (List ℕ)) → p (f channel names) ≡ p names) → (channels : Channels)
      → keys_of (picked (map_values f channels)) ≡ keys_of (picked channels)
  same_keys f is [] = refl
  same_keys f is (e ∷ es) =
      let rest = same_keys f is es in
      ap (λ b. keys_of (cond b ((e.0, f e.0 e.1) ∷ picked (map_values f es)) (picked (map_values f es)))) (is e.0 e.1)
      ∙ elim (p e.1) as (λ b. keys_of (cond b ((e.0, f e.0 e.1) ∷ picked (map_values f es)) (picked (map_values f es))) ≡ keys_of (cond b (e ∷ picked es) (picked es))) [
        | true ↦ ap (λ names. e.0 ∷ names) rest
        | false ↦ rest
      ]

  no_keys : (f : List ℕ → List (List ℕ) → List (List ℕ)) → ((channel : List ℕ) (names : List (List ℕ)) → p (f channel names) ≡ false) → (channels : Channels)
      → keys_of (picked (map_values f channels)) ≡ []
  no_keys f is [] = refl
  no_keys f is (e ∷ es) =
      ap (λ b. keys_of (cond b ((e.0, f e.0 e.1) ∷ picked (map_values f es)) (picked (map_values f es)))) (is e.0 e.1) ∙ no_keys f is es

  module _ (empty : p [] ≡ false) where
    -- a channel that nobody is in does not pass
    picked_one : (channel : List ℕ) (names : List (List ℕ)) (es : Channels) → picked (lively es) ≡ picked es
        → picked (cond (has_names names) ((channel, names) ∷ lively es) (lively es)) ≡ cond (p names) ((channel, names) ∷ picked es) (picked es)
    picked_one channel [] es rest = rest ∙ sym (ap (λ b. cond b ((channel, []) ∷ picked es) (picked es)) empty)
    picked_one channel (n ∷ ns) es rest = ap (λ kept. cond (p (n ∷ ns)) ((channel, n ∷ ns) ∷ kept) kept) rest

    picked_lively : (channels : Channels) → picked (lively channels) ≡ picked channels
    picked_lively [] = refl
    picked_lively (e ∷ es) = picked_one e.0 e.1 es (picked_lively es)

    module _ (channel : List ℕ) where
      -- the name of a channel is there where its members pass
      named : (channels : Channels) → IsStrictlySortedBy name_cmp (keys_of channels) → is_among channel (keys_of (picked channels)) ≡ p (names_in channels channel)
      unfolding IsStrictlySortedBy
      named [] h = sym empty
      named (e ∷ es) h =
          let rest = named es h.1 in
          elim (same_name channel e.0) as (λ b. same_name channel e.0 ≡ b
          → is_among channel (keys_of (cond (p e.1) (e ∷ picked es) (picked es))) ≡ p (names_of (cond b (Some e.1) (at_name es channel)))) [
            | true ↦ λ t.
                let is : e.0 ≡ channel = sym (same_name_is channel e.0 t) in
                let none = below_none channel (keys_of (picked es)) (below_picked channel es (subst (λ x. IsBelow x (keys_of es)) is h.0)) in
                elim (p e.1) as (λ b. is_among channel (keys_of (cond b (e ∷ picked es) (picked es))) ≡ b) [
                  | true ↦ ap (λ b. b || is_among channel (keys_of (picked es))) t
                  | false ↦ none
                ]
            | false ↦ λ t. elim (p e.1) as (λ b. is_among channel (keys_of (cond b (e ∷ picked es) (picked es))) ≡ p (names_of (at_name es channel))) [
              | true ↦ ap (λ b. b || is_among channel (keys_of (picked es))) t ∙ rest
              | false ↦ rest
            ]
          ] refl

      -- the members of one channel written, so that they pass
      put_picked : (names : List (List ℕ)) → p names ≡ true → (channels : Channels) → IsStrictlySortedBy name_cmp (keys_of channels)
          → keys_of (picked (put_name channels channel names)) ≡ insert_key name_cmp (keys_of (picked channels)) channel
      unfolding IsStrictlySortedBy
      put_picked names passes [] h = ap (λ b. keys_of (cond b ((channel, names) ∷ []) [])) passes
      put_picked names passes (e ∷ es) h =
          let rest = put_picked names passes es h.1 in
          let kept = cond (p e.1) (e ∷ picked es) (picked es) in
          elim (name_cmp channel e.0) as (λ r. name_cmp channel e.0 ≡ r
          → keys_of (picked (by_order r ((channel, names) ∷ e ∷ es) ((e.0, names) ∷ es) (e ∷ put_name es channel names))) ≡ insert_key name_cmp (keys_of kept) channel) [
            | Less ↦ λ t.
                ap (λ b. keys_of (cond b ((channel, names) ∷ kept) kept)) passes
                ∙ sym (first channel (keys_of kept) (below_picked channel (e ∷ es) (t, below_more channel e.0 (keys_of es) t h.0)))
            | Equal ↦ λ t.
                let is : e.0 ≡ channel = sym (name_cmp_same channel e.0 t) in
                ap (λ b. keys_of (cond b ((e.0, names) ∷ picked es) (picked es))) passes
                ∙ elim (p e.1) as (λ b. (e.0 ∷ keys_of (picked es)) ≡ insert_key name_cmp (keys_of (cond b (e ∷ picked es) (picked es))) channel) [
                  | true ↦ ap (λ r. match_ordering r (channel ∷ e.0 ∷ keys_of (picked es)) (e.0 ∷ keys_of (picked es)) (e.0 ∷ insert_key name_cmp (keys_of (picked es)) channel)) (sym t)
                  | false ↦
                      ap (λ x. x ∷ keys_of (picked es)) is
                      ∙ sym (first channel (keys_of (picked es)) (below_picked channel es (subst (λ x. IsBelow x (keys_of es)) is h.0)))
                ]
            | Greater ↦ λ t. elim (p e.1) as (λ b. keys_of (cond b (e ∷ picked (put_name es channel names)) (picked (put_name es channel names)))
                ≡ insert_key name_cmp (keys_of (cond b (e ∷ picked es) (picked es))) channel) [
                  | true ↦
                      ap (λ ks. e.0 ∷ ks) rest
                      ∙ ap (λ r. match_ordering r (channel ∷ e.0 ∷ keys_of (picked es)) (e.0 ∷ keys_of (picked es)) (e.0 ∷ insert_key name_cmp (keys_of (picked es)) channel)) (sym t)
                  | false ↦ rest
                ]
          ] refl

      -- written so that they pass where they did
      put_unseen : (names : List (List ℕ)) (channels : Channels) → p names ≡ p (names_in channels channel) → IsStrictlySortedBy name_cmp (keys_of channels)
          → keys_of (picked (put_name channels channel names)) ≡ keys_of (picked channels)
      unfolding IsStrictlySortedBy
      put_unseen names [] is h = ap (λ b. keys_of (cond b ((channel, names) ∷ []) [])) (is ∙ empty)
      put_unseen names (e ∷ es) is h =
          let kept = cond (p e.1) (e ∷ picked es) (picked es) in
          elim (name_cmp channel e.0) as (λ r. name_cmp channel e.0 ≡ r → p names ≡ p (names_of (cond (is_eq r) (Some e.1) (at_name es channel)))
          → keys_of (picked (by_order r ((channel, names) ∷ e ∷ es) ((e.0, names) ∷ es) (e ∷ put_name es channel names))) ≡ keys_of kept) [
            | Less ↦ λ t same.
                ap (λ b. keys_of (cond b ((channel, names) ∷ kept) kept))
                (same ∙ ap (λ found. p (names_of found)) (absent channel es (below_more channel e.0 (keys_of es) t h.0)) ∙ empty)
            | Equal ↦ λ t same.
                ap (λ b. keys_of (cond b ((e.0, names) ∷ picked es) (picked es))) same
                ∙ elim (p e.1) as (λ b. keys_of (cond b ((e.0, names) ∷ picked es) (picked es)) ≡ keys_of (cond b (e ∷ picked es) (picked es))) [ true ↦ refl | false ↦ refl ]
            | Greater ↦ λ t same.
                let rest = put_unseen names es same h.1 in
                elim (p e.1) as (λ b. keys_of (cond b (e ∷ picked (put_name es channel names)) (picked (put_name es channel names))) ≡ keys_of (cond b (e ∷ picked es) (picked es))) [
                  | true ↦ ap (λ ks. e.0 ∷ ks) rest
                  | false ↦ rest
                ]
          ] refl is

      -- changed so that they do not pass
      change_picked : (f : List (List ℕ) → List (List ℕ)) → ((names : List (List ℕ)) → p (f names) ≡ false) → (channels : Channels) → IsStrictlySortedBy name_cmp (keys_of channels)
          → keys_of (picked (change_name channels channel f)) ≡ remove_key (is_at (name_cmp channel)) (keys_of (picked channels))
      unfolding IsStrictlySortedBy
      change_picked f fails [] h = refl
      change_picked f fails (e ∷ es) h =
          let rest = change_picked f fails es h.1 in
          let after = picked (change_name es channel f) in
          elim (same_name channel e.0) as (λ b. same_name channel e.0 ≡ b
          → keys_of (picked ((e.0, cond b (f e.1) e.1) ∷ change_name es channel f)) ≡ remove_key (is_at (name_cmp channel)) (keys_of (cond (p e.1) (e ∷ picked es) (picked es)))) [
            | true ↦ λ t.
                let is : e.0 ≡ channel = sym (same_name_is channel e.0 t) in
                let under = subst (λ x. IsBelow x (keys_of es)) is h.0 in
                ap (λ b. keys_of (cond b ((e.0, f e.1) ∷ after) after)) (fails e.1)
                ∙ ap (λ es. keys_of (picked es)) (change_absent name_cmp f es channel (absent channel es under))
                ∙ elim (p e.1) as (λ b. keys_of (picked es) ≡ remove_key (is_at (name_cmp channel)) (keys_of (cond b (e ∷ picked es) (picked es)))) [
                  | true ↦ ap (λ b. cond b (keys_of (picked es)) (e.0 ∷ remove_key (is_at (name_cmp channel)) (keys_of (picked es)))) (sym t)
                  | false ↦ sym (not_removed channel (keys_of (picked es)) (below_picked channel es under))
                ]
            | false ↦ λ t. elim (p e.1) as (λ b. keys_of (cond b (e ∷ after) after) ≡ remove_key (is_at (name_cmp channel)) (keys_of (cond b (e ∷ picked es) (picked es)))) [
              | true ↦
                  ap (λ ks. e.0 ∷ ks) rest
                  ∙ ap (λ b. cond b (keys_of (picked es)) (e.0 ∷ remove_key (is_at (name_cmp channel)) (keys_of (picked es)))) (sym t)
              | false ↦ rest
            ]
          ] refl

-- whether one is among those who are left
module _ (user name : List ℕ) where
  among_more : (names : List (List ℕ)) → is_among user (names ++ name ∷ []) ≡ (is_among user names || same_name user name)
  among_more [] = elim (same_name user name) as (λ b. (b || false) ≡ b) [ true ↦ refl | false ↦ refl ]
  among_more (n ∷ ns) =
      let rest = among_more ns in
      elim (same_name user n) as (λ b. (b || is_among user (ns ++ name ∷ [])) ≡ ((b || is_among user ns) || same_name user name)) [ true ↦ refl | false ↦ rest ]

  among_others : same_name user name ≡ false → (names : List (List ℕ)) → is_among user (all_but name names) ≡ is_among user names
  among_others apart [] = refl
  among_others apart (n ∷ ns) =
      let rest = among_others apart ns in
      elim (same_name name n) as (λ b. same_name name n ≡ b
      → is_among user (cond (not b) (n ∷ all_but name ns) (all_but name ns)) ≡ (same_name user n || is_among user ns)) [
        | true ↦ λ t. rest ∙ sym (ap (λ b. b || is_among user ns) (ap (same_name user) (sym (same_name_is name n t)) ∙ apart))
        | false ↦ λ t. ap (λ b. same_name user n || b) rest
      ] refl

nobody_left_out : (name : List ℕ) (names : List (List ℕ)) → is_among name names ≡ false → all_but name names ≡ names
nobody_left_out name [] none = refl
nobody_left_out name (n ∷ ns) none =
    elim (same_name name n) as (λ b. (b || is_among name ns) ≡ false → cond (not b) (n ∷ all_but name ns) (all_but name ns) ≡ n ∷ ns) [
      | true ↦ λ h. absurd (cc)
      | false ↦ λ h. ap (λ rest. n ∷ rest) (nobody_left_out name ns h)
    ] none

module _ (channels : Channels) (name : List ℕ) (rising : IsStrictlySortedBy name_cmp (keys_of channels)) where
  -- two users, or one
  by_user : (user : List ℕ) (all changed : Places) (own : List (List ℕ)) → all name ≡ own → (same_name user name ≡ false → all user ≡ changed user)
      → all user ≡ cond (same_name name user) own (changed user)
  by_user user all changed own is others =
      elim (same_name name user) as (λ b. same_name name user ≡ b → all user ≡ cond b own (changed user)) [
        | true ↦ λ t. ap all (sym (same_name_is name user t)) ∙ is
        | false ↦ λ t. others (same_name_sym user name ∙ t)
      ] refl

  pub places-joined : (channel : List ℕ) → places_in (joined channel name channels) ≡ with_place channel name (places_in channels)
  places-joined channel = λ i user. by_user user (places_in (joined channel name channels)) (places_in channels) _ own (others user) i
    where
      own : places_in (joined channel name channels) name ≡ insert_key name_cmp (places_in channels name) channel
      own =
          put_picked (is_among name) refl channel (names_in channels channel ++ name ∷ [])
          (among_more name name (names_in channels channel) ∙ ap (λ b. is_among name (names_in channels channel) || b) (same_name_itself name)
          ∙ elim (is_among name (names_in channels channel)) as (λ b. (b || true) ≡ true) [ true ↦ refl | false ↦ refl ])
          channels rising

      others : (user : List ℕ) → same_name user name ≡ false → places_in (joined channel name channels) user ≡ places_in channels user
      others user apart =
          put_unseen (is_among user) refl channel (names_in channels channel ++ name ∷ []) channels
          (among_more user name (names_in channels channel) ∙ ap (λ b. is_among user (names_in channels channel) || b) apart
          ∙ elim (is_among user (names_in channels channel)) as (λ b. (b || false) ≡ b) [ true ↦ refl | false ↦ refl ])
          rising

  pub places-left : (channel : List ℕ) → places_in (left channel name channels) ≡ without_place channel name (places_in channels)
  places-left channel = λ i user. by_user user (places_in (left channel name channels)) (places_in channels) _ own (others user) i
    where
      own : places_in (left channel name channels) name ≡ remove_key (is_at (name_cmp channel)) (places_in channels name)
      own =
          ap keys_of (picked_lively (is_among name) refl (change_name channels channel (all_but name)))
          ∙ change_picked (is_among name) refl channel (all_but name) (out_of_but name) channels rising

      others : (user : List ℕ) → same_name user name ≡ false → places_in (left channel name channels) user ≡ places_in channels user
      others user apart =
          ap keys_of (picked_lively (is_among user) refl (change_name channels channel (all_but name)))
          ∙ same_keys (is_among user) (λ key names. cond (same_name channel key) (all_but name names) names)
          (λ key names. elim (same_name channel key) as (λ b. is_among user (cond b (all_but name names) names) ≡ is_among user names) [
            | true ↦ among_others user name apart names
            | false ↦ refl
          ])
          channels

  abbrev each : List ℕ → List (List ℕ) → List (List ℕ)
  each channel names = all_but name names

  pub places-all_left : places_in (all_left name channels) ≡ without_user name (places_in channels)
  places-all_left = λ i user. by_user user (places_in (all_left name channels)) (places_in channels) _ own (others user) i
    where
      own : places_in (all_left name channels) name ≡ []
      own =
          ap keys_of (picked_lively (is_among name) refl (map_values each channels))
          ∙ no_keys (is_among name) each (λ channel names. out_of_but name names) channels

      others : (user : List ℕ) → same_name user name ≡ false → places_in (all_left name channels) user ≡ places_in channels user
      others user apart =
          ap keys_of (picked_lively (is_among user) refl (map_values each channels))
          ∙ same_keys (is_among user) each (λ channel names. among_others user name apart names) channels

  pub not_placed : (channel : List ℕ) → is_among name (names_in channels channel) ≡ false → is_among channel (places_in channels name) ≡ false
  not_placed channel none = named (is_among name) refl channel channels rising ∙ none

-- one who leaves each of the channels that it is in leaves all
module _ (name : List ℕ) where
  passed : (e : List ℕ × List (List ℕ)) (names : List (List ℕ)) (es : Channels) → has_names e.1 ≡ true → IsBelow e.0 names
      → left_each name names (e ∷ es) ≡ e ∷ left_each name names es
  passed e [] es lives h = refl
  passed e (n ∷ ns) es lives h =
      let apart : same_name n e.0 ≡ false = ap is_eq (name_cmp_total.antisymm n e.0 ∙ ap ordering_reverse h.0) in
      let after = change_name es n (all_but name) in
      ap (left_each name ns)
      (ap (λ b. lively ((e.0, cond b (all_but name e.1) e.1) ∷ after)) apart ∙ ap (λ b. cond b (e ∷ lively after) (lively after)) lives)
      ∙ passed e ns (left n name es) lives h.1

  left_each_is : (channels : Channels) → AreLively channels → IsStrictlySortedBy name_cmp (keys_of channels)
      → left_each name (places_in channels name) channels ≡ all_left name channels
  unfolding IsStrictlySortedBy
  left_each_is [] lives h = refl
  left_each_is (e ∷ es) lives h =
      let rest = left_each_is es lives.1 h.1 in
      let under = below_picked (is_among name) e.0 es h.0 in
      let names = places_in es name in
      let those = all_but name e.1 in
      elim (is_among name e.1) as (λ b. is_among name e.1 ≡ b
      → left_each name (keys_of (cond b (e ∷ picked (is_among name) es) (picked (is_among name) es))) (e ∷ es)
      ≡ cond (has_names those) ((e.0, those) ∷ all_left name es) (all_left name es)) [
        | true ↦ λ t.
            ap (λ b. left_each name names (lively ((e.0, cond b those e.1) ∷ change_name es e.0 (all_but name)))) (same_name_itself e.0)
            ∙ ap (λ after. left_each name names (cond (has_names those) ((e.0, those) ∷ after) after))
            (ap lively (change_absent name_cmp (all_but name) es e.0 (absent e.0 es h.0)) ∙ lively_same es lives.1)
            ∙ elim (has_names those) as (λ b. has_names those ≡ b → left_each name names (cond b ((e.0, those) ∷ es) es) ≡ cond b ((e.0, those) ∷ all_left name es) (all_left name es)) [
              | true ↦ λ some. passed (e.0, those) names es some under ∙ ap (λ after. (e.0, those) ∷ after) rest
              | false ↦ λ none. rest
            ] refl
        | false ↦ λ t.
            passed e names es lives.0 under ∙ ap (λ after. e ∷ after) rest
            ∙ sym (ap (λ ns. cond (has_names ns) ((e.0, ns) ∷ all_left name es) (all_left name es)) (nobody_left_out name e.1 t)
            ∙ ap (λ b. cond b (e ∷ all_left name es) (all_left name es)) lives.0)
      ] refl

  pub leaves_all : (channels : Channels) → AreLively channels → IsStrictlySortedBy name_cmp (keys_of channels) → (names : List (List ℕ)) → names ≡ places_in channels name
      → left_each name names channels ≡ all_left name channels
  leaves_all channels lives rising names is = ap (λ those. left_each name those channels) is ∙ left_each_is channels lives rising
