-- One logs in: what it is shown, and what others are shown of it.
use Rattle.std.proofs.Common.{◌≡◌, ℕ, List, [], ◌∷◌, ◌++◌, refl, sym, ap, subst, ◌∙◌, Bool, true, false, not, T, append_assoc, append-nil, eqb→eq}
use Rattle.std.specs.Prelude.{Option, Some, None, IsSome, ◌==◌, map, flat_map, is_some, if◌then◌else◌}
use Rattle.std.specs.List.{IsDistinct}
use Rattle.std.specs.Ordering.{nat_cmp}
use Rattle.std.specs.Cmp.{nat_cmp_total}
use Rattle.std.specs.FinMap.Entries.{is_sorted, is_sorted-put, below_all}
use Rattle.std.proofs.lemmas.List.{map-append}
use Rattle.reply_kinds.specs.declared.Reply.{Reply}
use Rattle.reply_kinds.specs.declared.Reply.TheVariants as reply
use Rattle.line_words.specs.Table.{ByName, ByNumber, at_name, at_number, put_name, change_number, name_cmp, same_name, is_among, all_but, map_values}
use Rattle.line_words.proofs.Tables.{name_cmp_total, name_cmp_same, same_name_itself, is_sorted-map_values, map_values-put}
use Rattle.channel_book.specs.Channels.{channels_of}
use Rattle.room_lists.specs.Room.{has_member, member_names}
use Rattle.lobby_model.specs.State.{State, User, Info, Battle, battle_of, updated}
use Rattle.lobby_model.specs.Battles.{battle_lines}
use Rattle.lobby_model.specs.Sessions.{added, shown_status, burst, logs_in}
use Rattle.lobby_model.specs.Outcome.{lines_for}
use Rattle.lobby_model.specs.Sound.{Sound, SoundBattle}
use Rattle.lobby_view.specs.View.{View, Known, known_with, Listed, shown_all, new_view, change_members, at_end, change_listed_info}
use Rattle.lobby_view.specs.Observe.{observe, known, own_room, listed}
use Rattle.lobby_view.proofs.Basics.{Seen, shown_all-append}
use Rattle.lobby_view.proofs.Finding.{find_none, filter_none}
use Rattle.lobby_view.proofs.Places.{Before, before_values, below_values, sorted_before, sorted_behind, put_last, find_middle, change_middle}
use Rattle.lobby_view.proofs.Ordered.{change_put}
use Rattle.lobby_view.proofs.Users.{all_known, at_users}
use Rattle.lobby_view.proofs.Changed.{all_listed}
use Rattle.lobby_view.proofs.Distinct.{first_apart, none_dropped}

-- users, each of status 0 at first
abbrev newly_known : User → Known
newly_known user = known_with 0 (known user)

abbrev zeroed : ByName User → ByName Known
zeroed users = map_values (λ name user. newly_known user) users

abbrev added_line : List ℕ × User → Reply
added_line e = added e.0 e.1

abbrev status_lines : List ℕ × User → List Reply
status_lines e = shown_status e.0 e.1

motd_shown : (v : View) (texts : List (List ℕ)) → shown_all v (map (λ t. reply.Motd t) texts) ≡ v
motd_shown v [] = refl
motd_shown v (t ∷ texts) = motd_shown v texts

added_shown : (v : View) (done rest : ByName User) → T (is_sorted name_cmp (done ++ rest))
    → shown_all (at_users v (zeroed done)) (map added_line rest) ≡ at_users v (zeroed (done ++ rest))
added_shown v done [] h = ap (λ users. at_users v (zeroed users)) (sym (append-nil done))
added_shown v done (e ∷ rest) h =
    let before = before_values name_cmp (λ name user. newly_known user) e.0 done (sorted_before name_cmp name_cmp_total done e rest h) in
    ap (λ users. shown_all (at_users v users) (map added_line rest))
    (put_last name_cmp e.0 (newly_known e.1) (zeroed done) before ∙ sym (map-append (λ x. (x.0, newly_known x.1)) done (e ∷ [])))
    ∙ added_shown v (done ++ e ∷ []) rest (subst (λ m. T (is_sorted name_cmp m)) (sym (append_assoc done (e ∷ []) rest)) h)
    ∙ ap (λ users. at_users v (zeroed users)) (append_assoc done (e ∷ []) rest)

-- one line of status, or none where it is 0
one_status : (v : View) (done : ByName Known) (e : List ℕ × User) (rest : ByName User) → Before name_cmp e.0 done → T (below_all name_cmp e.0 rest)
    → shown_all (at_users v (done ++ (e.0, newly_known e.1) ∷ zeroed rest)) (shown_status e.0 e.1)
    ≡ at_users v (done ++ (e.0, known e.1) ∷ zeroed rest)
one_status v done e rest before above =
    elim (e.1.status == 0) as (λ b. e.1.status == 0 ≡ b
    → shown_all (at_users v (done ++ (e.0, newly_known e.1) ∷ zeroed rest)) (if b then [] else reply.ClientStatus e.0 e.1.status ∷ [])
    ≡ at_users v (done ++ (e.0, known e.1) ∷ zeroed rest)) [
      | true ↦ λ t. ap (λ n. at_users v (done ++ (e.0, known_with n (known e.1)) ∷ zeroed rest)) (sym (eqb→eq e.1.status 0 (subst T (sym t) tt)))
      | false ↦ λ t. ap (at_users v)
          (change_middle name_cmp name_cmp_total e.0 (known_with e.1.status) (newly_known e.1) done (zeroed rest) before
          (below_values name_cmp (λ name user. newly_known user) e.0 rest above))
    ] refl

statuses_shown : (v : View) (done rest : ByName User) → T (is_sorted name_cmp (done ++ rest))
    → shown_all (at_users v (all_known done ++ zeroed rest)) (flat_map status_lines rest) ≡ at_users v (all_known (done ++ rest))
statuses_shown v done [] h = ap (at_users v) (sym (map-append (λ x. (x.0, known x.1)) done []))
statuses_shown v done (e ∷ rest) h =
    let before = before_values name_cmp (λ name user. known user) e.0 done (sorted_before name_cmp name_cmp_total done e rest h) in
    shown_all-append (at_users v (all_known done ++ (e.0, newly_known e.1) ∷ zeroed rest)) (shown_status e.0 e.1) (flat_map status_lines rest)
    ∙ ap (λ w. shown_all w (flat_map status_lines rest))
    (one_status v (all_known done) e rest before (sorted_behind name_cmp done e rest h)
    ∙ ap (at_users v) (sym (append_assoc (all_known done) ((e.0, known e.1) ∷ []) (zeroed rest))
    ∙ ap (λ users. users ++ zeroed rest) (sym (map-append (λ x. (x.0, known x.1)) done (e ∷ [])))))
    ∙ statuses_shown v (done ++ e ∷ []) rest (subst (λ m. T (is_sorted name_cmp m)) (sym (append_assoc done (e ∷ []) rest)) h)
    ∙ ap (λ users. at_users v (all_known users)) (append_assoc done (e ∷ []) rest)

-- battles, to one who is in none
module _ (users : ByName User) (v : View) where
  abbrev at_battles : ByNumber Listed → View
  at_battles battles = record v { battles = battles; own = None }

  abbrev joined_line : ℕ → List ℕ → Reply
  joined_line id name = reply.JoinedBattle id name None

  module _ (id : ℕ) (info : Info) (done : ByNumber Listed) (before : Before nat_cmp id done) where
    abbrev last_with : List (List ℕ) → View
    last_with names = at_battles (done ++ (id, record { info = info; members = names }) ∷ [])

    members_shown : (names more : List (List ℕ)) → shown_all (last_with names) (map (joined_line id) more) ≡ last_with (names ++ more)
    members_shown names [] = ap last_with (sym (append-nil names))
    members_shown names (n ∷ more) =
        ap (λ m. shown_all (at_battles m) (map (joined_line id) more))
        (change_middle nat_cmp nat_cmp_total id (change_members (at_end (n ∷ []))) (record { info = info; members = names }) done [] before tt)
        ∙ members_shown (names ++ n ∷ []) more
        ∙ ap last_with (append_assoc names (n ∷ []) more)

  -- the founder first, and then the others
  founder_first : (battle : Battle) → SoundBattle users battle
      → battle.info.founder ∷ all_but battle.info.founder (member_names battle.room) ≡ member_names battle.room
  founder_first battle sound =
      let founder = battle.info.founder in
      let others = sound.founder.0 in
      ap (λ names. founder ∷ all_but founder names) sound.founder.1
      ∙ ap (λ t. founder ∷ (if not t then founder ∷ all_but founder others else all_but founder others)) (same_name_itself founder)
      ∙ ap (λ names. founder ∷ names)
      (none_dropped (same_name founder) others (first_apart founder others (subst (IsDistinct same_name) sound.founder.1 sound.room.members)).0)
      ∙ sym sound.founder.1

  battle_shown : (id : ℕ) (battle : Battle) (done : ByNumber Listed) → Before nat_cmp id done → SoundBattle users battle
      → shown_all (at_battles done) (battle_lines id battle) ≡ at_battles (done ++ (id, listed battle) ∷ [])
  battle_shown id battle done before sound =
      let info = battle.info in
      let opened : Listed = record { info = record info { spectators = 0; locked = false }; members = info.founder ∷ [] } in
      let more = all_but info.founder (member_names battle.room) in
      let updates = change_listed_info (updated info.spectators info.locked info.map_hash info.map) in
      ap (λ m. shown_all (at_battles (change_number m id updates)) (map (joined_line id) more)) (put_last nat_cmp id opened done before)
      ∙ ap (λ m. shown_all (at_battles m) (map (joined_line id) more)) (change_middle nat_cmp nat_cmp_total id updates opened done [] before tt)
      ∙ members_shown id info done before (info.founder ∷ []) more
      ∙ ap (last_with id info done before) (founder_first battle sound)

  abbrev lines_of : ℕ × Battle → List Reply
  lines_of e = battle_lines e.0 e.1

  battles_shown : (done rest : ByNumber Battle) → T (is_sorted nat_cmp (done ++ rest))
      → ((id : ℕ) (battle : Battle) → at_number (done ++ rest) id ≡ Some battle → SoundBattle users battle)
      → shown_all (at_battles (all_listed done)) (flat_map lines_of rest) ≡ at_battles (all_listed (done ++ rest))
  battles_shown done [] h each = ap (λ m. at_battles (all_listed m)) (sym (append-nil done))
  battles_shown done (e ∷ rest) h each =
      let before = sorted_before nat_cmp nat_cmp_total done e rest h in
      let is = append_assoc done (e ∷ []) rest in
      shown_all-append (at_battles (all_listed done)) (battle_lines e.0 e.1) (flat_map lines_of rest)
      ∙ ap (λ w. shown_all w (flat_map lines_of rest))
      (battle_shown e.0 e.1 (all_listed done) (before_values nat_cmp (λ id battle. listed battle) e.0 done before)
      (each e.0 e.1 (find_middle nat_cmp nat_cmp_total e.0 e.1 done rest before))
      ∙ ap at_battles (sym (map-append (λ x. (x.0, listed x.1)) done (e ∷ []))))
      ∙ battles_shown (done ++ e ∷ []) rest (subst (λ m. T (is_sorted nat_cmp m)) (sym is) h)
      (λ id battle there. each id battle (ap (λ m. at_number m id) (sym is) ∙ there))
      ∙ ap (λ m. at_battles (all_listed m)) is

module _ (s : State) (sound : Sound s) (c : ℕ) (name : List ℕ) (user : User) where
  -- a name that no user bears is nowhere
  module _ (free : is_some (at_name s.users name) ≡ false) where
    out : (b : Bool) → (b ≡ true → IsSome (at_name s.users name)) → b ≡ false
    out true known = sym (known refl) ∙ free
    out false known = refl

    no_channels : channels_of name s.channels ≡ []
    no_channels =
        filter_none name_cmp name_cmp_total (is_among name) s.channels sound.channels.in_order name_cmp_same
        (λ channel names there. out (is_among name names) (λ in_it. (sound.channels.each channel names there).are_users name in_it))

    no_battle : battle_of s name ≡ None
    no_battle =
        find_none nat_cmp nat_cmp_total (λ b. has_member name b.room) s.battles sound.battles.in_order
        (λ id battle there. out (has_member name battle.room) (λ in_it. (sound.battles.each id battle there).are_users name in_it))

    -- the newcomer, whatever its view was before
    pub newcomer_seen : (v : View) (before : Option (List ℕ))
        → shown_all v (lines_for (record { mine = true; name = before }) (logs_in c name user s).told) ≡ observe ((logs_in c name user s).after s) name
    newcomer_seen v before =
        let there = put_name s.users name user in
        let statuses = flat_map status_lines there in
        let rest = flat_map (λ e. battle_lines e.0 e.1) s.battles ++ reply.LoginInfoEnd ∷ [] in
        let sorted = is_sorted-put name_cmp name_cmp_total name user s.users sound.clients.users_in_order in
        ap (λ lines. shown_all v lines) (append-nil (burst s.settings.motd name there s.battles))
        ∙ shown_all-append (new_view name) (map (λ t. reply.Motd t) s.settings.motd) (map added_line there ++ (statuses ++ rest))
        ∙ ap (λ w. shown_all w (map added_line there ++ (statuses ++ rest))) (motd_shown (new_view name) s.settings.motd)
        ∙ shown_all-append (new_view name) (map added_line there) (statuses ++ rest)
        ∙ ap (λ w. shown_all w (statuses ++ rest)) (added_shown (new_view name) [] there sorted)
        ∙ shown_all-append (at_users (new_view name) (zeroed there)) statuses rest
        ∙ ap (λ w. shown_all w rest) (statuses_shown (new_view name) [] there sorted)
        ∙ shown_all-append (at_users (new_view name) (all_known there)) (flat_map (λ e. battle_lines e.0 e.1) s.battles) (reply.LoginInfoEnd ∷ [])
        ∙ battles_shown s.users (at_users (new_view name) (all_known there)) [] s.battles sound.battles.in_order sound.battles.each
        ∙ (λ i. record (at_users (new_view name) (all_known there)) {
          battles = all_listed s.battles;
          channels = sym no_channels i;
          own = own_room (sym no_battle i);
        })

  -- others
  pub arrival_seen : (u : List ℕ) → Seen s false u (logs_in c name user s)
  arrival_seen u =
      let were = all_known s.users in
      elim (user.status == 0) as (λ b. user.status == 0 ≡ b
      → shown_all (observe s u) ((added name user ∷ (if b then [] else reply.ClientStatus name user.status ∷ [])) ++ [])
      ≡ at_users (observe s u) (put_name were name (known user))) [
        | true ↦ λ t. ap (λ n. at_users (observe s u) (put_name were name (known_with n (known user)))) (sym (eqb→eq user.status 0 (subst T (sym t) tt)))
        | false ↦ λ t. ap (at_users (observe s u))
            (change_put name_cmp name_cmp_total name_cmp_same name (newly_known user) (known_with user.status) were
            (is_sorted-map_values name_cmp (λ name user. known user) s.users sound.clients.users_in_order))
      ] refl
      ∙ ap (at_users (observe s u)) (sym (map_values-put name_cmp known s.users name user))
