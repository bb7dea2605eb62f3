-- What happens in channels keeps the lobby sound.
use Rattle.std.proofs.Common.{◌≡◌, ℕ, List, [], ◌∷◌, ◌++◌, refl, sym, ap, subst, ◌∙◌, true, false, T, inl, inr}
use Rattle.std.specs.Prelude.{Some, None, IsSome, if◌then◌else◌}
use Rattle.std.specs.List.{IsDistinct}
use Rattle.std.specs.FinMap.Entries.{is_sorted, is_sorted-put}
use Rattle.line_words.specs.Table.{ByName, at_name, name_cmp, same_name, is_among, all_but, map_values, change_name}
use Rattle.channel_book.specs.Channels.{Channels, names_of, names_in, has_names, joined, lively, left, all_left}
use Rattle.lobby_model.specs.State.{State, User}
use Rattle.lobby_model.specs.Channels.{joins, leaves, leaves_all}
use Rattle.lobby_model.specs.Sound.{SoundChannel, SoundChannels, Sound}
use Rattle.line_words.proofs.Tables.{name_cmp_total, name_cmp_same, is_sorted-filter, is_sorted-map_values, is_sorted-change, at-map_values}
use Rattle.lobby_model.proofs.Finding.{some_of, of_change, of_put, of_filter}
use Rattle.lobby_model.proofs.Users.{same_clients}
use Rattle.line_words.proofs.Once.{once_with, once_but, out_of_but, among_with_is, among_of_but}
use Rattle.channel_book.proofs.Lively.{has_names-append}

module _ (users : ByName User) where
  but_sound : (me : List ℕ) (names : List (List ℕ)) → has_names (all_but me names) ≡ true → SoundChannel users names
      → SoundChannel users (all_but me names)
  but_sound me names lives was =
      record { lives = lives; once = once_but me names was.once; are_users = λ name in_it. was.are_users name (among_of_but me name names in_it) }

  -- of channels that may be empty, those that are not
  lively_sound : (m : Channels) → T (is_sorted name_cmp m)
      → ((channel : List ℕ) (names : List (List ℕ)) → at_name m channel ≡ Some names → has_names names ≡ true → SoundChannel users names)
      → SoundChannels users (lively m)
  lively_sound m h each = record {
    in_order = is_sorted-filter name_cmp name_cmp_total (λ e. has_names e.1) m h;
    each = λ channel names there. let was = of_filter name_cmp name_cmp_total has_names m h channel names there in each channel names was.0 was.1;
  }

  module _ (channels : Channels) (sound : SoundChannels users channels) where
    once_in : (channel : List ℕ) → IsDistinct same_name (names_in channels channel)
    unfolding IsDistinct
    once_in channel =
        elim (at_name channels channel) as (λ o. at_name channels channel ≡ o → IsDistinct same_name (names_of o)) [
          | None ↦ λ e. tt
          | Some names ↦ λ e. (sound.each channel names e).once
        ] refl

    pub user_in : (channel name : List ℕ) → is_among name (names_in channels channel) ≡ true → IsSome (at_name users name)
    user_in channel name in_it =
        elim (at_name channels channel) as (λ o. at_name channels channel ≡ o → is_among name (names_of o) ≡ true → IsSome (at_name users name)) [
          | None ↦ λ e i. absurd (cc)
          | Some names ↦ λ e i. (sound.each channel names e).are_users name i
        ] refl in_it

    joined_sound : (me channel : List ℕ) → is_among me (names_in channels channel) ≡ false → IsSome (at_name users me)
        → SoundChannels users (joined channel me channels)
    joined_sound me channel out known = record {
      in_order = is_sorted-put name_cmp name_cmp_total channel (names_in channels channel ++ me ∷ []) channels sound.in_order;
      each =
          λ q names there. elim (of_put name_cmp name_cmp_total name_cmp_same channels channel (names_in channels channel ++ me ∷ []) q names there) [
            | inl is ↦ subst (SoundChannel users) is.1 new
            | inr was ↦ sound.each q names was
          ];
    }
      where
        new : SoundChannel users (names_in channels channel ++ me ∷ [])
        new = record {
          lives = has_names-append (names_in channels channel) me;
          once = once_with me (names_in channels channel) out (once_in channel);
          are_users = λ name in_it. elim (among_with_is me name (names_in channels channel) in_it) [
            | inl before ↦ user_in channel name before
            | inr is ↦ subst (λ n. IsSome (at_name users n)) (sym is) known
          ];
        }

    left_sound : (me channel : List ℕ) → SoundChannels users (left channel me channels)
    left_sound me channel =
        lively_sound (change_name channels channel (all_but me)) (is_sorted-change name_cmp (all_but me) channels channel sound.in_order)
        (λ q names there lives.
        let was = of_change name_cmp name_cmp_same channel (all_but me) channels q names there in
        elim (same_name channel q) as (λ t. (if t then all_but me was.0 else was.0) ≡ names → SoundChannel users names) [
          | true ↦ λ e. subst (SoundChannel users) e (but_sound me was.0 (ap has_names e ∙ lives) (sound.each q was.0 was.1))
          | false ↦ λ e. subst (SoundChannel users) e (sound.each q was.0 was.1)
        ] was.2)

    abbrev without : List ℕ → Channels
    without me = map_values (λ channel names. all_but me names) channels

    in_order_without : (me : List ℕ) → T (is_sorted name_cmp (without me))
    in_order_without me = is_sorted-map_values name_cmp (λ channel names. all_but me names) channels sound.in_order

    was_without : (me q : List ℕ) (names : List (List ℕ)) → at_name (without me) q ≡ Some names
        → (was : List (List ℕ)) × (at_name channels q ≡ Some was) × (all_but me was ≡ names)
    was_without me q names there = some_of (all_but me) (at_name channels q) names (sym (at-map_values name_cmp (all_but me) channels q) ∙ there)

    all_left_sound : (me : List ℕ) → SoundChannels users (all_left me channels)
    all_left_sound me = lively_sound (without me) (in_order_without me) (λ q names there lives.
        let was = was_without me q names there in
        subst (SoundChannel users) was.2 (but_sound me was.0 (ap has_names was.2 ∙ lives) (sound.each q was.0 was.1)))

    -- one who left all channels is in none
    pub in_none : (me q : List ℕ) (names : List (List ℕ)) → at_name (all_left me channels) q ≡ Some names → is_among me names ≡ false
    in_none me q names there =
        let was = was_without me q names (of_filter name_cmp name_cmp_total has_names (without me) (in_order_without me) q names there).0 in
        ap (is_among me) (sym was.2) ∙ out_of_but me was.0

    -- users come, change and go, but not those who are in a channel
    pub channels_of_users : (new : ByName User)
        → ((channel : List ℕ) (names : List (List ℕ)) (name : List ℕ) → at_name channels channel ≡ Some names → is_among name names ≡ true
        → IsSome (at_name new name)) → SoundChannels new channels
    channels_of_users new stay = record {
      in_order = sound.in_order;
      each = λ channel names there.
          let was = sound.each channel names there in
          record { lives = was.lives; once = was.once; are_users = λ name in_it. stay channel names name there in_it };
    }

module _ (s : State) (sound : Sound s) where
  with_channels : (channels : Channels) → SoundChannels s.users channels → Sound (record s { channels = channels })
  with_channels channels new =
      record { clients = same_clients s sound.clients channels s.battles s.last_battle; channels = new; battles = sound.battles; askers = sound.askers }

  pub joins_keeps : (me channel : List ℕ) (names : List (List ℕ)) → is_among me (names_in s.channels channel) ≡ false → IsSome (at_name s.users me)
      → Sound ((joins me channel names).after s)
  joins_keeps me channel names out known =
      with_channels (joined channel me s.channels) (joined_sound s.users s.channels sound.channels me channel out known)

  pub leaves_keeps : (me channel : List ℕ) (names : List (List ℕ)) → Sound ((leaves me channel names).after s)
  leaves_keeps me channel names = with_channels (left channel me s.channels) (left_sound s.users s.channels sound.channels me channel)

  pub leaves_all_keeps : (me : List ℕ) (t : State) → Sound ((leaves_all me t).after s)
  leaves_all_keeps me t = with_channels (all_left me s.channels) (all_left_sound s.users s.channels sound.channels me)
