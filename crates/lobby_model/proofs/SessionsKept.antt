-- Coming and going keeps the lobby sound.
use Rattle.std.proofs.Common.{◌≡◌, ℕ, ◌+◌, ◌≤◌, ℤ, List, [], ◌∷◌, ◌++◌, refl, sym, ap, subst, ◌∙◌, Bool, true, false, cond, T, inl, inr, arith}
use Rattle.std.specs.Prelude.{Option, Some, None, Result, Ok, Err, IsSome, map, if◌then◌else◌, is_some}
use Rattle.std.specs.Ordering.{nat_cmp}
use Rattle.std.specs.Cmp.{nat_cmp_total}
use Rattle.std.specs.FinMap.{nat_cmp-IsAntisymmetric}
use Rattle.std.specs.FinMap.Entries.{is_sorted, is_sorted-put}
use Rattle.account_book.specs.Account.{Account}
use Rattle.account_book.specs.declared.error.LoginFault.{LoginFault}
use Rattle.reply_kinds.specs.declared.Reply.TheVariants as reply
use Rattle.line_words.specs.Table.{ByName, ByNumber, at_name, at_number, put_name, put_number, change_name, change_number, without_name, without_number, name_cmp, same_name, same_number, is_among}
use Rattle.room_lists.specs.Room.{has_member, has_asker}
use Rattle.lobby_model.specs.declared.event.Event.{Event}
use Rattle.lobby_model.specs.declared.event.Phase.TheVariants.{In, Ended}
use Rattle.lobby_model.specs.State.{State, User, Client, Battle, name_of_client, name_at, name_of, set_phase, in_phase, user_with, asked_by, battle_of}
use Rattle.lobby_model.specs.Texts.{user_is_in}
use Rattle.lobby_model.specs.Outcome.{Happening, happens, done, state_after, all_after}
use Rattle.lobby_model.specs.Channels.{leaves_all}
use Rattle.lobby_model.specs.Battles.{closes, member_leaves, leaves_own, drops_own, asks_no_more, is_founder}
use Rattle.lobby_model.specs.Sessions.{greeted, connects, logs_in, log_in, user_of, user_has, unseen, is_gone, departs, drained, drains}
use Rattle.lobby_model.specs.Events.{effect}
use Rattle.lobby_model.specs.Next.{next, batch, with_batch}
use Rattle.lobby_model.specs.Sound.{SoundChannels, SoundBattles, SoundAskers, Sound}
use Rattle.line_words.proofs.Tables.{same_name_is, name_cmp_total, name_cmp_same, is_sorted-without, is_sorted-change}
use Rattle.lobby_model.proofs.Delivered.{is_sorted-values, delivered_at}
use Rattle.lobby_model.proofs.Checked as checked
use Rattle.lobby_model.proofs.Finding.{some_of, of_change, of_put, of_without, some_put, some_without, some_change}
use Rattle.line_words.proofs.Once.{contradiction}
use Rattle.lobby_model.proofs.Users.{Agree, unchanged, left, entered, same_names, phase_names, ended_names, drain_names, without_names, left_users, put_users, names_kept}
use Rattle.lobby_model.proofs.ChannelsKept.{channels_of_users, in_none, leaves_all_keeps}
use Rattle.lobby_model.proofs.AskersKept.{IsNowhere, AsksNowhere, askers_of_users}
use Rattle.lobby_model.proofs.BattlesKept.{battles_of_users, own_battle, own_request, nowhere, asks_nowhere, asks_no_more_keeps, dropped, dropped_nowhere, left_asks_nowhere, leaves_battle_keeps, left_nowhere}

abbrev pub clients_become : (ByNumber Client → ByNumber Client) → Happening
clients_become f = happens (λ t. record t { clients = f t.clients }) []

-- f takes client c its name, and no other: it ends, or is there no more
pub record Unnames (c : ℕ) (f : ByNumber Client → ByNumber Client) : Type 0 where
  pub in_order : (clients : ByNumber Client) → T (is_sorted nat_cmp clients) → T (is_sorted nat_cmp (f clients))
  pub was : (clients : ByNumber Client) (d : ℕ) (client : Client) → at_number (f clients) d ≡ Some client
      → (before : Client) × (at_number clients d ≡ Some before)
  pub names : (clients : ByNumber Client) (d : ℕ) → name_at (f clients) d ≡ cond (same_number d c) None (name_at clients d)

pub ends_unnames : (c : ℕ) → Unnames c (λ clients. set_phase clients c Ended)
ends_unnames c = record {
  in_order = λ clients h. is_sorted-change nat_cmp (in_phase Ended) clients c h;
  was = λ clients d client found. let before = of_change nat_cmp nat_cmp-IsAntisymmetric c (in_phase Ended) clients d client found in
      (before.0, before.1);
  names = λ clients d. ended_names clients c d;
}

pub disconnects_unnames : (c : ℕ) → Unnames c (λ clients. without_number clients c)
disconnects_unnames c = record {
  in_order = λ clients h. is_sorted-without nat_cmp nat_cmp_total clients c h;
  was = λ clients d client found. (client, (of_without nat_cmp nat_cmp_total clients c d client found).1);
  names = λ clients d. without_names clients c d;
}

module _ (s : State) (sound : Sound s) where
  agree : Agree s.clients s.users
  agree = let both = sound.clients.one_for_each in record { single = both.single; has_user = both.has_user; has_client = both.has_client }

  with_clients : (clients : ByNumber Client) (users : ByName User) (last_client : ℕ) → T (is_sorted nat_cmp clients) → T (is_sorted name_cmp users)
      → ((c : ℕ) (client : Client) → at_number clients c ≡ Some client → c ≤ last_client) → Agree clients users → SoundChannels users s.channels
      → SoundBattles users s.battles s.last_battle → SoundAskers users s.battles
      → Sound (record s { clients = clients; users = users; last_client = last_client })
  with_clients clients users last_client in_order users_in_order given both channels battles askers = record {
    clients = record {
      in_order = in_order;
      users_in_order = users_in_order;
      given = given;
      one_for_each = record { single = both.single; has_user = both.has_user; has_client = both.has_client };
    };
    channels = channels;
    battles = battles;
    askers = askers;
  }

  -- users who stay are where they were
  with_users : (users : ByName User) → ((name : List ℕ) → IsSome (at_name s.users name) → IsSome (at_name users name))
      → SoundChannels users s.channels × SoundBattles users s.battles s.last_battle × SoundAskers users s.battles
  with_users users stay = (
    channels_of_users s.users s.channels sound.channels users
        (λ channel names name there in_it. stay name ((sound.channels.each channel names there).are_users name in_it)),
    battles_of_users s.users s.battles s.last_battle sound.battles users
        (λ id battle name there in_it. stay name ((sound.battles.each id battle there).are_users name in_it)),
    askers_of_users s.users s.battles sound.askers users (λ id battle name there asks. stay name (sound.askers.are_users id battle name there asks)),
  )

  -- the number that is given next is free
  next_is_free : at_number s.clients (s.last_client + 1) ≡ None
  next_is_free = elim (at_number s.clients (s.last_client + 1)) as (λ o. at_number s.clients (s.last_client + 1) ≡ o → o ≡ None) [
    | None ↦ λ e. refl
    | Some client ↦ λ e. absurd (let below = sound.clients.given (s.last_client + 1) client e in omega arith)
  ] refl

  pub connects_keeps : (ip : List ℕ) (home : ℕ) (t : State) → Sound ((connects (s.last_client + 1) ip home t).after s)
  connects_keeps ip home t =
      with_clients (put_number s.clients (s.last_client + 1) (greeted ip home)) s.users (s.last_client + 1)
      (is_sorted-put nat_cmp nat_cmp_total (s.last_client + 1) (greeted ip home) s.clients sound.clients.in_order) sound.clients.users_in_order
      (λ c client found. elim (of_put nat_cmp nat_cmp_total nat_cmp-IsAntisymmetric s.clients (s.last_client + 1) (greeted ip home) c client found) [
        | inl is ↦ subst (λ n. n ≤ s.last_client + 1) (sym is.0) (omega arith)
        | inr was ↦ let below = sound.clients.given c client was in omega arith
      ])
      (unchanged _ _ agree _ _ (same_names s.clients (s.last_client + 1) (greeted ip home) (ap name_of_client next_is_free))
      (λ name. refl)) sound.channels sound.battles sound.askers

  pub logs_in_keeps : (c : ℕ) (name : List ℕ) (user : User) (t : State) (client : Client) → at_number s.clients c ≡ Some client → name_of s c ≡ None
      → is_some (at_name s.users name) ≡ false
      → Sound ((logs_in c name user t).after s)
  logs_in_keeps c name user t client found unnamed free =
      let stay = with_users (put_name s.users name user) (λ n there. some_put name_cmp name_cmp_total s.users name user n there) in
      with_clients (set_phase s.clients c (In name)) (put_name s.users name user) s.last_client
      (is_sorted-change nat_cmp (in_phase (In name)) s.clients c sound.clients.in_order)
      (is_sorted-put name_cmp name_cmp_total name user s.users sound.clients.users_in_order)
      (λ d x at_d. let was = of_change nat_cmp nat_cmp-IsAntisymmetric c (in_phase (In name)) s.clients d x at_d in sound.clients.given d was.0 was.1)
      (entered _ _ agree c name unnamed free _ _ (phase_names s.clients c (In name) client found) (put_users s.users name user)) stay.0 stay.1 stay.2

  pub log_in_keeps : (c : ℕ) (cpu : ℤ) (authorises : Bool) (result : Result Account LoginFault) (client : Client) → at_number s.clients c ≡ Some client
      → name_of s c ≡ None → Sound (state_after s (log_in s c cpu authorises result))
  log_in_keeps c cpu authorises (Err fault) client found unnamed = sound
  log_in_keeps c cpu authorises (Ok account) client found unnamed =
      checked.refuse (λ o. Sound (state_after s o)) (is_some (at_name s.users account.name)) (reply.Denied user_is_in)
      (done (logs_in c account.name (user_of account cpu authorises) s)) sound
      (λ free. logs_in_keeps c account.name (user_of account cpu authorises) s client found unnamed free)

  pub user_has_keeps : (me : List ℕ) (status : ℕ) → Sound ((user_has me status).after s)
  user_has_keeps me status =
      let users = change_name s.users me (user_with status) in
      let stay = with_users users (λ name there. some_change name_cmp name_cmp_same me (user_with status) s.users name ∙ there) in
      with_clients s.clients users s.last_client sound.clients.in_order
      (is_sorted-change name_cmp (user_with status) s.users me sound.clients.users_in_order) sound.clients.given
      (unchanged _ _ agree _ _ (λ c. refl) (λ name. some_change name_cmp name_cmp_same me (user_with status) s.users name)) stay.0 stay.1 stay.2

  pub drains_keeps : (c n : ℕ) → Sound ((drains c n).after s)
  drains_keeps c n =
      with_clients (change_number s.clients c (drained n)) s.users s.last_client
      (is_sorted-change nat_cmp (drained n) s.clients c sound.clients.in_order) sound.clients.users_in_order
      (λ d x at_d. let was = of_change nat_cmp nat_cmp-IsAntisymmetric c (drained n) s.clients d x at_d in sound.clients.given d was.0 was.1)
      (unchanged _ _ agree _ _ (drain_names s.clients c n) (λ name. refl)) sound.channels sound.battles sound.askers

  module _ (c : ℕ) (f : ByNumber Client → ByNumber Client) (unnames : Unnames c f) where
    unnamed_given : (d : ℕ) (client : Client) → at_number (f s.clients) d ≡ Some client → d ≤ s.last_client
    unnamed_given d client found = let was = unnames.was s.clients d client found in sound.clients.given d was.0 was.1

    -- a user who is in no channel and no battle is gone, and its client bears its name no more
    gone_keeps : (me : List ℕ) → name_of s c ≡ Some me
        → ((channel : List ℕ) (names : List (List ℕ)) → at_name s.channels channel ≡ Some names → is_among me names ≡ false) → IsNowhere s.battles me
        → AsksNowhere s.battles me
        → Sound (record s { clients = f s.clients; users = without_name s.users me })
    gone_keeps me named in_no_channel in_no_battle asks_none =
        with_clients (f s.clients) (without_name s.users me) s.last_client (unnames.in_order s.clients sound.clients.in_order)
        (is_sorted-without name_cmp name_cmp_total s.users me sound.clients.users_in_order) unnamed_given
        (left _ _ agree c (Some me) named _ _ (unnames.names s.clients) (left_users s.users (Some me)))
        (channels_of_users s.users s.channels sound.channels (without_name s.users me)
        (λ channel names name there in_it. stays name (λ n. is_among n names) in_it (in_no_channel channel names there)
        ((sound.channels.each channel names there).are_users name in_it)))
        (battles_of_users s.users s.battles s.last_battle sound.battles (without_name s.users me)
        (λ id battle name there in_it. stays name (λ n. has_member n battle.room) in_it (in_no_battle id battle there)
        ((sound.battles.each id battle there).are_users name in_it)))
        (askers_of_users s.users s.battles sound.askers (without_name s.users me)
        (λ id battle name there asks. stays name (λ n. has_asker n battle.room) asks (asks_none id battle there)
        (sound.askers.are_users id battle name there asks)))
      where
        stays : (name : List ℕ) (is_in : List ℕ → Bool) → is_in name ≡ true → is_in me ≡ false → IsSome (at_name s.users name)
            → IsSome (at_name (without_name s.users me) name)
        stays name is_in in_it out there =
            elim (same_name me name) as (λ b. same_name me name ≡ b → IsSome (at_name (without_name s.users me) name)) [
              | true ↦ λ same. contradiction (is_in name) in_it (ap is_in (sym (same_name_is me name same)) ∙ out)
              | false ↦ λ apart. some_without name_cmp name_cmp_total s.users me name apart there
            ] refl

-- a user logs out: it leaves its channels, asks no more, leaves its battle, and is gone, and its client bears its name no more
module _ (s : State) (sound : Sound s) (c : ℕ) (f : ByNumber Client → ByNumber Client) (unnames : Unnames c f) (me : List ℕ)
    (named : name_of s c ≡ Some me) where
  abbrev out : State
  out = (leaves_all me s).after s

  out_sound : Sound out
  out_sound = leaves_all_keeps s sound me s

  out_of_channels : (channel : List ℕ) (names : List (List ℕ)) → at_name out.channels channel ≡ Some names → is_among me names ≡ false
  out_of_channels = in_none s.users s.channels sound.channels me

  abbrev leaving : Bool → ℕ → Battle → Happening
  leaving founds id battle = if founds then closes id battle else member_leaves me id battle

  -- behind the channels, of a state in which it asks nowhere
  module _ (t : State) (t_sound : Sound t) (same_clients : t.clients ≡ s.clients) (same_channels : t.channels ≡ out.channels) (silent : AsksNowhere t.battles me) where
    abbrev rest : List Happening → State
    rest happenings = all_after t (map unseen (happenings ++ is_gone me ∷ []) ++ clients_become f ∷ [])

    t_named : name_of t c ≡ Some me
    t_named = ap (λ clients. name_at clients c) same_clients ∙ named

    t_out : (channel : List ℕ) (names : List (List ℕ)) → at_name t.channels channel ≡ Some names → is_among me names ≡ false
    t_out channel names there = out_of_channels channel names (ap (λ channels. at_name channels channel) (sym same_channels) ∙ there)

    leaves_and_is_gone : (own : Option (ℕ × Battle)) → battle_of t me ≡ own → Sound (rest (leaves_own me own))
    leaves_and_is_gone None is = gone_keeps t t_sound c f unnames me t_named t_out (nowhere t t_sound me is) silent
    leaves_and_is_gone (Some own) is =
        let there = own_battle t t_sound me own.0 own.1 is in
        elim (is_founder me own.1) as (λ b. Sound ((leaving b own.0 own.1).after t) → IsNowhere ((leaving b own.0 own.1).after t).battles me
        → AsksNowhere ((leaving b own.0 own.1).after t).battles me
        → Sound (rest (leaving b own.0 own.1 ∷ []))) [
          | true ↦ λ left_sound in_no_battle asks_none. gone_keeps _ left_sound c f unnames me t_named t_out in_no_battle asks_none
          | false ↦ λ left_sound in_no_battle asks_none. gone_keeps _ left_sound c f unnames me t_named t_out in_no_battle asks_none
        ] (leaves_battle_keeps t t_sound own.0 own.1 there.0 me) (left_nowhere t t_sound own.0 own.1 there.0 me there.1)
        (left_asks_nowhere t t_sound own.0 own.1 there.0 me silent)

  logs_out_keeps : (asked : Option (ℕ × Battle)) → asked_by s me ≡ asked → (own : Option (ℕ × Battle)) → battle_of s me ≡ own
      → Sound (all_after s (map unseen (leaves_all me s ∷ (drops_own me asked ++ (leaves_own me own ++ is_gone me ∷ []))) ++ clients_become f ∷ []))
  logs_out_keeps None asks own is = leaves_and_is_gone out out_sound refl refl (asks_nowhere out out_sound me asks) own is
  logs_out_keeps (Some e) asks None is =
      let there = own_request out out_sound me e asks in
      gone_keeps ((asks_no_more me e.0).after out) (asks_no_more_keeps out out_sound e.0 e.1 there.0 me) c f unnames me named out_of_channels
      (dropped_nowhere out out_sound e.0 e.1 there.0 me (nowhere out out_sound me is)) (dropped out out_sound e.0 e.1 there.0 me there.1)
  logs_out_keeps (Some e) asks (Some own) is =
      let there = own_request out out_sound me e asks in
      let in_it = own_battle out out_sound me own.0 own.1 is in
      absurd (out_sound.askers.outside me e.0 own.0 e.1 own.1 there.0 in_it.0 there.1 in_it.1)

-- one departs: its user logs out, if it has one, and its client bears no name any more
pub departs_keeps : (s : State) → Sound s → (c : ℕ) (f : ByNumber Client → ByNumber Client) → Unnames c f → (me : Option (List ℕ))
    → name_of s c ≡ me → Sound (state_after s (departs s me (clients_become f)))
departs_keeps s sound c f unnames None named =
    with_clients s sound (f s.clients) s.users s.last_client (unnames.in_order s.clients sound.clients.in_order) sound.clients.users_in_order
    (unnamed_given s sound c f unnames)
    (left _ _ (agree s sound) c None named _ _ (unnames.names s.clients) (λ name. refl)) sound.channels sound.battles sound.askers
departs_keeps s sound c f unnames (Some me) named = logs_out_keeps s sound c f unnames me named (asked_by s me) refl (battle_of s me) refl

-- lines that are put change no name, and no number
pub delivered_keeps : (s : State) (e : Event) → Sound (effect s e) → Sound (next s e)
delivered_keeps s e sound =
    with_clients (effect s e) sound (next s e).clients (effect s e).users (effect s e).last_client
    (is_sorted-values _ (effect s e).clients sound.clients.in_order) sound.clients.users_in_order
    (λ c client found.
    let was = some_of (with_batch s.settings.outbox_limit (batch s e c)) (at_number (effect s e).clients c) client
    (sym (delivered_at s e c) ∙ found) in
    sound.clients.given c was.0 was.1)
    (unchanged _ _ (agree (effect s e) sound) _ _ (names_kept s e) (λ name. refl)) sound.channels sound.battles sound.askers
