-- Joining and leaving channels, seen by the one who does it and by others.
use Rattle.std.proofs.Common.{◌≡◌, ℕ, zero, suc, List, [], ◌∷◌, ◌++◌, refl, sym, ap, ◌∙◌, Bool, true, false, not, cond, T, append_assoc, append-nil}
use Rattle.std.specs.Prelude.{Option, Some, None, map, if◌then◌else◌}
use Rattle.std.proofs.lemmas.Map.Entries.{option_filter}
use Rattle.std.specs.Ordering.{is_eq}
use Rattle.std.specs.FinMap.Entries.{is_sorted, below_all}
use Rattle.reply_kinds.specs.declared.Reply.{Reply}
use Rattle.reply_kinds.specs.declared.Reply.TheVariants as reply
use Rattle.line_words.specs.Table.{at_name, put_name, without_name, change_name, name_cmp, same_name, is_among, all_but, map_values}
use Rattle.line_words.proofs.Tables.{Less_of, name_cmp_total, name_cmp_same, same_name_itself, filter-put, filter-put_unseen, find-filter, is_sorted-filter, change_absent, both, both_first, both_second}
use Rattle.line_words.proofs.Once.{apart_either_way, out_of_but}
use Rattle.channel_book.specs.Channels.{Channels, names_of, names_in, channels_of, has_names, joined, lively, left}
use Rattle.lobby_model.specs.State.{State}
use Rattle.lobby_model.specs.Outcome.{Letter, tell, users, lines_for}
use Rattle.lobby_model.specs.Channels.{pieces_from, name_lines, joins, leaves, leaves_all}
use Rattle.lobby_view.specs.View.{View, shown_all, at_end}
use Rattle.lobby_view.specs.Observe.{observe}
use Rattle.lobby_view.proofs.Basics.{Seen, seen_by_each, reader}
use Rattle.lobby_view.proofs.Places.{change_above}
use Rattle.lobby_view.proofs.Ordered.{change_put, put_is_change}
use Rattle.lobby_view.proofs.Distinct.{stays, at_end_apart, is_at_end, none_dropped}

abbrev InOrder : Channels → Type 0
InOrder m = T (is_sorted name_cmp m)

abbrev Names : Type 0
Names = List (List ℕ)

abbrev at_channels : View → Channels → View
at_channels v channels = record v { channels = channels }

own_in_order : (u : List ℕ) (m : Channels) → InOrder m → InOrder (channels_of u m)
own_in_order u m h = is_sorted-filter name_cmp name_cmp_total (λ e. is_among u e.1) m h

-- channels that nobody is in are nobody's
lively_own : (u : List ℕ) (m : Channels) → channels_of u (lively m) ≡ channels_of u m
lively_own u [] = refl
lively_own u (e ∷ m) = here e.1 ∙ ap (λ rest. if is_among u e.1 then e ∷ rest else rest) (lively_own u m)
  where
    here : (names : Names) → channels_of u (if has_names names then (e.0, names) ∷ lively m else lively m)
        ≡ (if is_among u names then (e.0, names) ∷ channels_of u (lively m) else channels_of u (lively m))
    here [] = refl
    here (n ∷ names) = refl

module _ (u channel : List ℕ) (f : Names → Names) where
  -- a change that leaves u in or out
  own_changed : ((names : Names) → is_among u (f names) ≡ is_among u names) → (m : Channels)
      → channels_of u (change_name m channel f) ≡ change_name (channels_of u m) channel f
  own_changed same [] = refl
  own_changed same (e ∷ m) =
      let here = if same_name channel e.0 then f e.1 else e.1 in
      let later = channels_of u (change_name m channel f) in
      ap (λ b. if b then (e.0, here) ∷ later else later)
      (elim (same_name channel e.0) as (λ t. is_among u (if t then f e.1 else e.1) ≡ is_among u e.1) [ true ↦ same e.1 | false ↦ refl ])
      ∙ elim (is_among u e.1) as
      (λ b. (if b then (e.0, here) ∷ later else later) ≡ change_name (if b then e ∷ channels_of u m else channels_of u m) channel f) [
        | true ↦ ap (λ rest. (e.0, here) ∷ rest) (own_changed same m)
        | false ↦ own_changed same m
      ]

  -- one that takes u out: the channel is u's no more
  own_lost : ((names : Names) → is_among u (f names) ≡ false) → (m : Channels)
      → channels_of u (change_name m channel f) ≡ without_name (channels_of u m) channel
  own_lost out [] = refl
  own_lost out (e ∷ m) =
      let own = channels_of u m in
      let later = channels_of u (change_name m channel f) in
      elim (same_name channel e.0) as (λ t. same_name channel e.0 ≡ t
      → (if is_among u (if t then f e.1 else e.1) then (e.0, if t then f e.1 else e.1) ∷ later else later)
      ≡ without_name (if is_among u e.1 then e ∷ own else own) channel) [
        | true ↦ λ t.
            ap (λ b. if b then (e.0, f e.1) ∷ later else later) (out e.1) ∙ own_lost out m
            ∙ elim (is_among u e.1) as (λ b. without_name own channel ≡ without_name (if b then e ∷ own else own) channel) [
              | true ↦ ap (λ b. if not b then e ∷ without_name own channel else without_name own channel) (sym t)
              | false ↦ refl
            ]
        | false ↦ λ t. elim (is_among u e.1) as (λ b. (if b then e ∷ later else later) ≡ without_name (if b then e ∷ own else own) channel) [
          | true ↦
              ap (λ rest. e ∷ rest) (own_lost out m)
              ∙ ap (λ b. if not b then e ∷ without_name own channel else without_name own channel) (sym t)
          | false ↦ own_lost out m
        ]
      ] refl

-- what the CLIENTS lines put together
abbrev together : List Names → Names
together [] = []
together (piece ∷ pieces) = piece ++ together pieces

together_pieces : (room : ℕ) (begun names : Names) → together (pieces_from room begun names) ≡ begun ++ names
together_pieces room begun [] = refl
together_pieces zero begun (n ∷ names) = ap (λ ns. begun ++ ns) (together_pieces 31 (n ∷ []) names)
together_pieces (suc room) begun (n ∷ names) = together_pieces room (begun ++ n ∷ []) names ∙ append_assoc begun (n ∷ []) names

clients_shown : (v : View) (m : Channels) (channel : List ℕ) (names : Names) (pieces : List Names) → InOrder m
    → shown_all (at_channels v (put_name m channel names)) (map (λ piece. reply.Clients channel piece) pieces)
    ≡ at_channels v (put_name m channel (names ++ together pieces))
clients_shown v m channel names [] h = ap (λ ns. at_channels v (put_name m channel ns)) (sym (append-nil names))
clients_shown v m channel names (piece ∷ pieces) h =
    ap (λ channels. shown_all (at_channels v channels) (map (λ piece. reply.Clients channel piece) pieces))
    (change_put name_cmp name_cmp_total name_cmp_same channel names (at_end piece) m h)
    ∙ clients_shown v m channel (names ++ piece) pieces h
    ∙ ap (λ ns. at_channels v (put_name m channel ns)) (append_assoc names piece (together pieces))

module _ (s : State) (in_order : InOrder s.channels) (me channel : List ℕ) (mine : Bool) where
  abbrev there : Names
  there = names_in s.channels channel

  abbrev join_lines : List Reply
  join_lines = reply.Join channel ∷ name_lines channel (there ++ me ∷ [])

  -- of the lines for the one who joins and for those in the channel
  abbrev join_lines_if : Bool → Bool → List Reply
  join_lines_if is_me is_in = (if is_me then join_lines else []) ++ ((if is_in then reply.Joined channel me ∷ [] else []) ++ [])

  own_join_seen : is_among me there ≡ false → Seen s mine me (joins me channel there)
  own_join_seen out =
      let own = channels_of me s.channels in
      ap (λ b. shown_all (observe s me) (join_lines_if b (is_among me there))) (same_name_itself me)
      ∙ ap (λ b. shown_all (observe s me) (join_lines_if true b)) out
      ∙ ap (shown_all (observe s me)) (append-nil join_lines)
      ∙ clients_shown (observe s me) own channel [] (pieces_from 32 [] (there ++ me ∷ [])) (own_in_order me s.channels in_order)
      ∙ ap (λ names. at_channels (observe s me) (put_name own channel names)) (together_pieces 32 [] (there ++ me ∷ []))
      ∙ ap (at_channels (observe s me))
      (sym (filter-put name_cmp name_cmp_total name_cmp_same (is_among me) channel (there ++ me ∷ []) s.channels in_order (is_at_end me there)))

  abbrev leave_line : List Reply
  leave_line = reply.Left channel me ∷ []

  own_leave_seen : is_among me there ≡ true → Seen s mine me (leaves me channel there)
  own_leave_seen in_it =
      let own = channels_of me s.channels in
      ap (λ b. shown_all (observe s me) ((if b then leave_line else []) ++ [])) in_it
      ∙ ap (λ b. at_channels (observe s me) (if b then without_name own channel else change_name own channel (all_but me))) (same_name_itself me)
      ∙ ap (at_channels (observe s me))
      (sym (lively_own me (change_name s.channels channel (all_but me)) ∙ own_lost me channel (all_but me) (out_of_but me) s.channels))

  module _ (u : List ℕ) (apart : same_name u me ≡ false) where
    abbrev own_channels : Channels
    own_channels = channels_of u s.channels

    not_own : (found : Option Names) → is_among u (names_of found) ≡ false → option_filter (is_among u) found ≡ None
    not_own None out = refl
    not_own (Some names) out = ap (λ b. cond b (Some names) None) out

    -- one more in a channel that u is in
    joined_own : (found : Option Names) → at_name s.channels channel ≡ found → is_among u (names_of found) ≡ true
        → change_name own_channels channel (at_end (me ∷ [])) ≡ channels_of u (put_name s.channels channel (names_of found ++ me ∷ []))
    joined_own None is in_it = absurd (cc)
    joined_own (Some names) is in_it =
        sym (ap (channels_of u) (put_is_change name_cmp name_cmp_total name_cmp_same channel names (at_end (me ∷ [])) s.channels in_order is)
        ∙ own_changed u channel (at_end (me ∷ [])) (at_end_apart u me apart) s.channels)

    other_join_seen : Seen s mine u (joins me channel there)
    other_join_seen =
        ap (λ b. shown_all (observe s u) (join_lines_if b (is_among u there))) apart
        ∙ elim (is_among u there) as (λ b. is_among u there ≡ b
        → shown_all (observe s u) (join_lines_if false b) ≡ at_channels (observe s u) (channels_of u (joined channel me s.channels))) [
          | true ↦ λ in_it. ap (at_channels (observe s u)) (joined_own (at_name s.channels channel) refl in_it)
          | false ↦ λ out. ap (at_channels (observe s u))
              (sym (filter-put_unseen name_cmp name_cmp_total name_cmp_same (is_among u) channel (there ++ me ∷ []) s.channels in_order
              (at_end_apart u me apart there ∙ out) (not_own (at_name s.channels channel) out)))
        ] refl

    left_own : channels_of u (left channel me s.channels) ≡ change_name own_channels channel (all_but me)
    left_own = lively_own u (change_name s.channels channel (all_but me)) ∙ own_changed u channel (all_but me) (stays me u apart) s.channels

    other_leave_seen : Seen s mine u (leaves me channel there)
    other_leave_seen =
        elim (is_among u there) as (λ b. is_among u there ≡ b
        → shown_all (observe s u) ((if b then leave_line else []) ++ []) ≡ at_channels (observe s u) (channels_of u (left channel me s.channels))) [
          | true ↦ λ in_it.
              ap (λ b. at_channels (observe s u) (if b then without_name own_channels channel else change_name own_channels channel (all_but me))) apart
              ∙ ap (at_channels (observe s u)) (sym left_own)
          | false ↦ λ out. ap (at_channels (observe s u))
              (sym (left_own ∙ change_absent name_cmp (all_but me) own_channels channel
              (find-filter name_cmp name_cmp_total (is_among u) channel s.channels in_order ∙ not_own (at_name s.channels channel) out)))
        ] refl

  -- as each user sees it
  pub joins_seen : is_among me there ≡ false → (u : List ℕ) → Seen s mine u (joins me channel there)
  joins_seen out = seen_by_each s mine me (joins me channel there) (own_join_seen out) other_join_seen

  pub leaves_seen : is_among me there ≡ true → (u : List ℕ) → Seen s mine u (leaves me channel there)
  leaves_seen in_it = seen_by_each s mine me (leaves me channel there) (own_leave_seen in_it) other_leave_seen

-- one who leaves all channels, seen by another
module _ (me u : List ℕ) (apart : same_name u me ≡ false) where
  abbrev letters : Channels → List Letter
  letters m = map (λ e. tell (users e.1) (reply.Left e.0 me ∷ [])) (channels_of me m)

  -- what the letters of one channel, of each channel, make of those of u
  abbrev left_one : List ℕ × Names → Channels → Channels
  left_one e own = if is_among me e.1 then (if is_among u e.1 then change_name own e.0 (all_but me) else own) else own

  abbrev left_each : Channels → Channels → Channels
  left_each [] own = own
  left_each (e ∷ m) own = left_each m (left_one e own)

  left_each_shown : (v : View) (m own : Channels) → same_name v.me me ≡ false
      → shown_all (at_channels v own) (lines_for (reader false u) (letters m)) ≡ at_channels v (left_each m own)
  left_each_shown v [] own other = refl
  left_each_shown v (e ∷ m) own other =
      elim (is_among me e.1) as (λ b. shown_all (at_channels v own)
      (lines_for (reader false u) (map (λ e. tell (users e.1) (reply.Left e.0 me ∷ [])) (if b then e ∷ channels_of me m else channels_of me m)))
      ≡ at_channels v (left_each m (if b then (if is_among u e.1 then change_name own e.0 (all_but me) else own) else own))) [
        | true ↦ elim (is_among u e.1) as
            (λ b. shown_all (at_channels v own) ((if b then reply.Left e.0 me ∷ [] else []) ++ lines_for (reader false u) (letters m))
            ≡ at_channels v (left_each m (if b then change_name own e.0 (all_but me) else own))) [
              | true ↦
                  ap (λ b. shown_all (at_channels v (if b then without_name own e.0 else change_name own e.0 (all_but me)))
                  (lines_for (reader false u) (letters m))) other
                  ∙ left_each_shown v m (change_name own e.0 (all_but me)) other
              | false ↦ left_each_shown v m own other
            ]
        | false ↦ left_each_shown v m own other
      ]

  -- a channel before all of these is none of them
  first_stays : (m : Channels) (e : List ℕ × Names) (own : Channels) → T (below_all name_cmp e.0 m) → left_each m (e ∷ own) ≡ e ∷ left_each m own
  first_stays [] e own h = refl
  first_stays (d ∷ m) e own h =
      let other = apart_either_way e.0 d.0 (ap is_eq (Less_of (name_cmp e.0 d.0) (both_first _ _ h))) in
      ap (left_each m)
      (elim (is_among me d.1) as (λ b. (if b then (if is_among u d.1 then change_name (e ∷ own) d.0 (all_but me) else e ∷ own) else e ∷ own)
      ≡ e ∷ (if b then (if is_among u d.1 then change_name own d.0 (all_but me) else own) else own)) [
        | true ↦ elim (is_among u d.1) as
            (λ b. (if b then change_name (e ∷ own) d.0 (all_but me) else e ∷ own) ≡ e ∷ (if b then change_name own d.0 (all_but me) else own)) [
              | true ↦ ap (λ b. (e.0, if b then all_but me e.1 else e.1) ∷ change_name own d.0 (all_but me)) other
              | false ↦ refl
            ]
        | false ↦ refl
      ])
      ∙ first_stays m e (left_one d own) (both_second _ _ h)

  own_below : (channel : List ℕ) (m : Channels) → T (below_all name_cmp channel m) → T (below_all name_cmp channel (channels_of u m))
  own_below channel [] h = tt
  own_below channel (e ∷ m) h =
      let rest = own_below channel m (both_second _ _ h) in
      elim (is_among u e.1) as (λ b. T (below_all name_cmp channel (if b then e ∷ channels_of u m else channels_of u m))) [
        | true ↦ both _ _ (both_first _ _ h) rest
        | false ↦ rest
      ]

  abbrev all_without : Channels → Channels
  all_without m = map_values (λ channel names. all_but me names) m

  left_each_is : (m : Channels) → InOrder m → left_each m (channels_of u m) ≡ channels_of u (all_without m)
  left_each_is [] h = refl
  left_each_is (e ∷ m) h =
      let own = channels_of u m in
      let later = channels_of u (all_without m) in
      elim (is_among u e.1) as (λ b. left_each m (if is_among me e.1 then
      (if b then change_name (if b then e ∷ own else own) e.0 (all_but me) else (if b then e ∷ own else own)) else (if b then e ∷ own else own))
      ≡ (if b then (e.0, all_but me e.1) ∷ later else later)) [
        | true ↦
            ap (left_each m)
            (elim (is_among me e.1) as (λ b. is_among me e.1 ≡ b
            → (if b then change_name (e ∷ own) e.0 (all_but me) else e ∷ own) ≡ (e.0, all_but me e.1) ∷ own) [
              | true ↦ λ in_it j.
                  (e.0, if same_name_itself e.0 j then all_but me e.1 else e.1)
                  ∷ change_above name_cmp e.0 (all_but me) own (own_below e.0 m (both_first _ _ h)) j
              | false ↦ λ out. ap (λ names. (e.0, names) ∷ own) (sym (none_dropped (same_name me) e.1 out))
            ] refl)
            ∙ first_stays m (e.0, all_but me e.1) own (both_first _ _ h)
            ∙ ap (λ rest. (e.0, all_but me e.1) ∷ rest) (left_each_is m (both_second _ _ h))
        | false ↦
            ap (left_each m) (elim (is_among me e.1) as (λ b. (if b then own else own) ≡ own) [ true ↦ refl | false ↦ refl ])
            ∙ left_each_is m (both_second _ _ h)
      ]
      ∙ ap (λ b. if b then (e.0, all_but me e.1) ∷ later else later) (sym (stays me u apart e.1))

pub leaves_all_seen : (s : State) → InOrder s.channels → (me u : List ℕ) → same_name u me ≡ false → Seen s false u (leaves_all me s)
leaves_all_seen s in_order me u apart =
    left_each_shown me u apart (observe s u) s.channels (channels_of u s.channels) apart
    ∙ ap (at_channels (observe s u)) (left_each_is me u apart s.channels in_order ∙ sym (lively_own u (all_without me u apart s.channels)))
