-- Users and channels keep the kinds of their replies, and what happens to them tells clean lines.
use Rattle.std.proofs.Common.{◌≡◌, ℕ, zero, suc, ◌≤◌, ◌+◌, List, [], ◌∷◌, ◌++◌, refl, true, false, length, arith}
use Rattle.std.specs.Prelude.{Option, Some, None, map, flat_map, if◌then◌else◌, ◌&&◌, ◌==◌}
use Rattle.std.proofs.lemmas.Bool.{le-leb}
use Rattle.std.proofs.lemmas.List.{length-append}
use Rattle.std.specs.List.{list_all}
use Rattle.reply_kinds.specs.declared.Reply.TheVariants as reply
use Rattle.reply_kinds.specs.Kinds.{fits}
use Rattle.reply_kinds.specs.Replies.{status_word}
use Rattle.line_words.specs.Bytes.{is_name, is_word}
use Rattle.line_words.specs.Kinds.{is_wide}
use Rattle.line_words.specs.Table.{ByName, at, name_cmp, all_but}
use Rattle.line_words.proofs.Tables.{name_cmp_same}
use Rattle.channel_book.specs.Channels.{Channels, names_of, names_in, joined, left}
use Rattle.lobby_model.specs.State.{User}
use Rattle.lobby_model.specs.Channels.{pieces_from, joins, leaves}
use Rattle.lobby_model.specs.Sessions.{added, shown_status, arrival}
use Rattle.lobby_view.proofs.Everywhere.{Each, each_put, each_change, each_at, each_filter, each_append}
use Rattle.lobby_view.proofs.Clean.{Clean, CleanLetters}

abbrev pub IsName : List ℕ → Type 0
IsName name = is_name name ≡ true

-- a user with its name
pub record UserKinds (e : List ℕ × User) : Type 0 where
  pub name : IsName e.0
  pub country : is_word e.1.country ≡ true
  pub short : length e.1.country ≤ 100
  pub cpu : is_wide e.1.cpu ≡ true
  pub account : fits status_word e.1.account ≡ true
  pub status : fits status_word e.1.status ≡ true

-- a channel with its name
pub record ChannelKinds (e : List ℕ × List (List ℕ)) : Type 0 where
  pub name : IsName e.0
  pub names : Each IsName e.1

-- lines
pub clean_user : (name : List ℕ) (user : User) → UserKinds (name, user) → Clean (added name user)
clean_user name user k =
    record { fits = λ i. k.name i && (k.country i && (k.cpu i && (k.account i && true))); short = (let c = k.short in omega arith) }

pub clean_status : (name : List ℕ) (status : ℕ) → IsName name → fits status_word status ≡ true → Clean (reply.ClientStatus name status)
clean_status name status n k = record { fits = λ i. n i && (k i && true); short = omega arith }

pub clean_removed : (name : List ℕ) → IsName name → Clean (reply.RemoveUser name)
clean_removed name n = record { fits = λ i. n i && true; short = omega arith }

clean_joined : (channel name : List ℕ) → IsName channel → IsName name → Clean (reply.Joined channel name)
clean_joined channel name c n = record { fits = λ i. c i && (n i && true); short = omega arith }

pub clean_left : (channel name : List ℕ) → IsName channel → IsName name → Clean (reply.Left channel name)
clean_left channel name c n = record { fits = λ i. c i && (n i && true); short = omega arith }

pub clean_arrival : (name : List ℕ) (user : User) → UserKinds (name, user) → Each Clean (arrival name user)
clean_arrival name user k = (
  clean_user name user k,
  elim (user.status == 0) as (λ b. Each Clean (if b then [] else reply.ClientStatus name user.status ∷ [])) [
    | true ↦ tt
    | false ↦ (clean_status name user.status k.name k.status, tt)
  ],
)

pub clean_users : (m : ByName User) → Each UserKinds m → Each Clean (map (λ e. added e.0 e.1) m)
clean_users [] h = tt
clean_users (e ∷ m) h = (clean_user e.0 e.1 h.0, clean_users m h.1)

pub clean_statuses : (m : ByName User) → Each UserKinds m → Each Clean (flat_map (λ e. shown_status e.0 e.1) m)
clean_statuses [] h = tt
clean_statuses (e ∷ m) h = each_append Clean _ _ (clean_arrival e.0 e.1 h.0).1 (clean_statuses m h.1)

-- pieces of at most 32 names
are_names : (ns : List (List ℕ)) → Each IsName ns → list_all is_name ns ≡ true
are_names [] h = refl
are_names (n ∷ ns) h = λ i. h.0 i && are_names ns h.1 i

clean_names : (channel : List ℕ) (ns : List (List ℕ)) → IsName channel → Each IsName ns → 1 ≤ length ns → length ns ≤ 32 → Clean (reply.Clients channel ns)
clean_names channel ns c all one most =
    record { fits = λ i. c i && (((are_names ns all i && le-leb 1 (length ns) one i) && le-leb (length ns) 32 most i) && true); short = omega arith }

-- the piece begun is not empty, or something is left for it
clean_pieces : (channel : List ℕ) (room : ℕ) (begun xs : List (List ℕ)) → IsName channel → Each IsName begun → Each IsName xs
    → room + length begun ≡ 32 → 1 ≤ length begun + length xs → Each Clean (map (λ piece. reply.Clients channel piece) (pieces_from room begun xs))
clean_pieces channel room begun [] c a b fit one = (clean_names channel begun c a (omega arith) (omega arith), tt)
clean_pieces channel zero begun (x ∷ xs) c a b fit one =
    (clean_names channel begun c a (omega arith) (omega arith), clean_pieces channel 31 (x ∷ []) xs c (b.0, tt) b.1 refl (omega arith))
clean_pieces channel (suc room) begun (x ∷ xs) c a b fit one =
    clean_pieces channel room (begun ++ x ∷ []) xs c (each_append IsName begun (x ∷ []) a (b.0, tt)) b.1
    (omega (arith, length-append begun (x ∷ []))) (omega (arith, length-append begun (x ∷ [])))

-- channels: joined, left
names_known : (m : Channels) (channel : List ℕ) → Each ChannelKinds m → Each IsName (names_in m channel)
names_known m channel h = of_found (at name_cmp m channel) refl
  where
    of_found : (o : Option (List (List ℕ))) → at name_cmp m channel ≡ o → Each IsName (names_of o)
    of_found None e = tt
    of_found (Some names) e = (each_at name_cmp name_cmp_same ChannelKinds m channel names h e).names

pub joined_kinds : (me channel : List ℕ) (m : Channels) → IsName me → IsName channel → Each ChannelKinds m → Each ChannelKinds (joined channel me m)
joined_kinds me channel m n c h =
    each_put name_cmp name_cmp_same ChannelKinds channel (names_in m channel ++ me ∷ []) m h
    (record { name = c; names = each_append IsName (names_in m channel) (me ∷ []) (names_known m channel h) (n, tt) })

pub left_kinds : (me channel : List ℕ) (m : Channels) → Each ChannelKinds m → Each ChannelKinds (left channel me m)
left_kinds me channel m h =
    each_filter ChannelKinds _ _ (each_change name_cmp name_cmp_same ChannelKinds channel (all_but me) m h
    (λ e k. record { name = k.name; names = each_filter IsName _ e.1 k.names }))

pub joins_clean : (me channel : List ℕ) (m : Channels) → IsName me → IsName channel → Each ChannelKinds m
    → CleanLetters (joins me channel (names_in m channel)).told
joins_clean me channel m n c h = (
  (
    record { fits = λ i. c i && true; short = omega arith },
    clean_pieces channel 32 [] (names_in m channel ++ me ∷ []) c tt
        (each_append IsName (names_in m channel) (me ∷ []) (names_known m channel h) (n, tt)) refl (omega (arith, length-append (names_in m channel) (me ∷ []))),
  ),
  ((clean_joined channel me c n, tt), tt),
)

pub leaves_clean : (me channel : List ℕ) (names : List (List ℕ)) → IsName me → IsName channel → CleanLetters (leaves me channel names).told
leaves_clean me channel names n c = ((clean_left channel me c n, tt), tt)
