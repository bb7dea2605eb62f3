-- What each thing that happens tells is clean, and keeps the kinds.
use Rattle.std.proofs.Common.{◌≡◌, ℕ, ◌≤◌, ℤ, List, [], ◌∷◌, ◌++◌, refl, Bool, true, false, length, arith}
use Rattle.std.specs.Prelude.{Option, Some, None, map, flat_map, if◌then◌else◌, ◌&&◌}
use Rattle.std.specs.Ordering.{nat_cmp}
use Rattle.std.specs.FinMap.{nat_cmp-IsAntisymmetric}
use Rattle.reply_kinds.specs.declared.Reply.{Reply}
use Rattle.reply_kinds.specs.declared.Reply.TheVariants as reply
use Rattle.reply_kinds.specs.Kinds.{fits, optional_text}
use Rattle.reply_kinds.specs.Replies.{status_word, port_number}
use Rattle.line_words.specs.Bytes.{is_word, is_text, is_sentence}
use Rattle.line_words.specs.Kinds.{is_wide, is_some_word}
use Rattle.line_words.specs.Table.{ByNumber, ByName, at_number, put_name, name_cmp, is_among, all_but, map_values}
use Rattle.line_words.proofs.Tables.{name_cmp_same}
use Rattle.channel_book.specs.Channels.{Channels, names_in, channels_of, all_left}
use Rattle.room_lists.specs.Room.{Room, Asker, has_member, with_member, without_member, with_asker, without_asker}
use Rattle.account_book.specs.Account.{Account}
use Rattle.lobby_model.specs.State.{State, Client, User, user_with, Info, Battle, asked_by, battle_of, updated}
use Rattle.lobby_model.specs.Outcome.{Happening, Letter, happens, tell, user, users, everyone}
use Rattle.lobby_model.specs.Channels.{joins, leaves, leaves_all}
use Rattle.lobby_model.specs.Battles.{members, battle_lines, change_room, change_info, joins_battle, let_into, asks_to_join, turned_away, asks_no_more, drops_own, member_leaves, closes, opens, leaves_battle, leaves_own, is_founder, updated_line}
use Rattle.lobby_model.specs.Sessions.{added, shown_status, user_of, user_has, is_gone, greeting, logs_out, unseen, to_others, logs_in}
use Rattle.lobby_view.proofs.Everywhere.{Each, each_put, each_change, each_at, each_found, each_filter, each_append, each_map}
use Rattle.lobby_view.proofs.Clean.{Clean, CleanLetters}
use Rattle.lobby_view.proofs.KindsOfUsers.{IsName, UserKinds, ChannelKinds, clean_status, clean_removed, clean_left, clean_arrival, clean_users, clean_statuses, joined_kinds, left_kinds, joins_clean, leaves_clean}
use Rattle.lobby_view.proofs.KindsOfBattles.{InfoKinds, BattleKinds, RoomKinds, AskerKinds, asking_kinds, asking_gone_kinds, entered_kinds, left_room_kinds, clean_updated, clean_opened, clean_battle, enters_clean, member_leaves_clean}

-- an account makes a user of the right kinds
abbrev pub MakesUser : Account → Type 0
MakesUser account = (cpu : ℤ) (authorises : Bool) → is_wide cpu ≡ true → UserKinds (account.name, user_of account cpu authorises)

-- all that is in the lobby can be printed
pub record Kinds (s : State) : Type 0 where
  pub users : Each UserKinds s.users
  pub channels : Each ChannelKinds s.channels
  pub battles : Each BattleKinds s.battles
  pub last : s.last_battle ≤ 2147483647
  pub motd : Each (λ t. Clean (reply.Motd t)) s.settings.motd
  pub greeted : Clean (greeting s.settings)
  pub accounts : Each MakesUser s.accounts

-- what happens tells clean lines and keeps the kinds, one thing after another
abbrev pub CleanAll : State → List Happening → Type 0
CleanAll s [] = Unit {0}
CleanAll s (h ∷ hs) = CleanLetters h.told × Kinds (h.after s) × CleanAll (h.after s) hs

module _ (s : State) (k : Kinds s) where
  -- with other clients, users, channels and battles
  pub kinds_with : (clients : ByNumber Client) (last : ℕ) (users : ByName User) (channels : Channels) (battles : ByNumber Battle)
      → Each UserKinds users → Each ChannelKinds channels → Each BattleKinds battles
      → Kinds (record s { clients = clients; last_client = last; users = users; channels = channels; battles = battles })
  kinds_with clients last users channels battles u c b = record {
    users = u;
    channels = c;
    battles = b;
    last = k.last;
    motd = k.motd;
    greeted = k.greeted;
    accounts = k.accounts;
  }

  with_users : (users : ByName User) → Each UserKinds users → Kinds (record s { users = users })
  with_users users u = kinds_with s.clients s.last_client users s.channels s.battles u k.channels k.battles

  with_channels : (channels : Channels) → Each ChannelKinds channels → Kinds (record s { channels = channels })
  with_channels channels c = kinds_with s.clients s.last_client s.users channels s.battles k.users c k.battles

  with_battles : (battles : ByNumber Battle) → Each BattleKinds battles → Kinds (record s { battles = battles })
  with_battles battles b = kinds_with s.clients s.last_client s.users s.channels battles k.users k.channels b

  pub battle_there : (id : ℕ) (b : Battle) → at_number s.battles id ≡ Some b → BattleKinds (id, b)
  battle_there id b there = each_at nat_cmp nat_cmp-IsAntisymmetric BattleKinds s.battles id b k.battles there

  -- in a room
  room_kinds : (id : ℕ) (f : Room → Room) → ((room : Room) → RoomKinds room → RoomKinds (f room)) → Kinds (change_room s id f)
  room_kinds id f keep =
      with_battles _ (each_change nat_cmp nat_cmp-IsAntisymmetric BattleKinds id (λ b. record b { room = f b.room }) s.battles k.battles
      (λ e h. record { id = h.id; info = h.info; hash = h.hash; room = keep e.1.room h.room }))

  pub room_clean : (id : ℕ) (b : Battle) (f : Room → Room) (lines : List Reply) → ((room : Room) → RoomKinds room → RoomKinds (f room))
      → Each Clean lines → CleanAll s (happens (λ t. change_room t id f) (tell (users (members b)) lines ∷ []) ∷ [])
  room_clean id b f lines keep clean = ((clean, tt), room_kinds id f keep, tt)

  pub info_clean : (id : ℕ) (b : Battle) → BattleKinds (id, b) → (spectators : ℕ) (locked : Bool) (map_hash : ℤ) (map_name : List ℕ)
      → fits port_number spectators ≡ true → is_wide map_hash ≡ true → is_sentence map_name ≡ true → length map_name ≤ 8192
      → CleanAll s (happens (λ t. change_info t id (updated spectators locked map_hash map_name))
      (tell everyone (updated_line id (updated spectators locked map_hash map_name b.info) ∷ []) ∷ []) ∷ [])
  info_clean id b was spectators locked map_hash map_name a w m short = (
    ((clean_updated id (updated spectators locked map_hash map_name b.info) was.id (updated_kinds b.info was.info), tt), tt),
    with_battles _ (each_change nat_cmp nat_cmp-IsAntisymmetric BattleKinds id
        (λ b. record b { info = updated spectators locked map_hash map_name b.info }) s.battles k.battles
        (λ e h. record { id = h.id; info = updated_kinds e.1.info h.info; hash = h.hash; room = h.room })),
    tt,
  )
    where
      updated_kinds : (info : Info) → InfoKinds info → InfoKinds (updated spectators locked map_hash map_name info)
      updated_kinds info h = record {
        battle_type = h.battle_type;
        nat_type = h.nat_type;
        founder = h.founder;
        ip = h.ip;
        ip_short = h.ip_short;
        port = h.port;
        max_players = h.max_players;
        rank = h.rank;
        map_hash = w;
        engine_name = h.engine_name;
        engine_version = h.engine_version;
        map = m;
        title = h.title;
        game_name = h.game_name;
        short = h.short;
        map_short = short;
        spectators = a;
      }

  -- into and out of battles
  pub enters_kinds : (me : List ℕ) (id : ℕ) (b : Battle) (password : Option (List ℕ)) → IsName me → at_number s.battles id ≡ Some b
      → is_some_word password ≡ true → length (optional_text password) ≤ 8193 → CleanAll s (joins_battle me id b password ∷ [])
  enters_kinds me id b password n there p short =
      (enters_clean me id b password n (battle_there id b there) p short, room_kinds id (with_member me) (λ room h. entered_kinds room h me n), tt)

  pub let_into_kinds : (asker : Asker) (id : ℕ) (b : Battle) → AskerKinds asker → BattleKinds (id, b) → CleanAll s (let_into asker id b ∷ [])
  let_into_kinds asker id b its was = (
    enters_clean asker.name id b asker.script_password its.name was its.script_password its.short,
    room_kinds id (λ room. with_member asker.name (without_asker asker.name room))
        (λ room h. entered_kinds (without_asker asker.name room) (asking_gone_kinds room h asker.name) asker.name its.name),
    tt,
  )

  -- asking to join one
  pub asks_kinds : (me : List ℕ) (id : ℕ) (b : Battle) (password : Option (List ℕ)) (ip : List ℕ)
      → AskerKinds (record { name = me; script_password = password }) → is_word ip ≡ true → length ip ≤ 100
      → CleanAll s (asks_to_join me id b password ip ∷ [])
  asks_kinds me id b password ip its word short = (
    ((record { fits = λ i. its.name i && (word i && true); short = omega arith }, tt), tt),
    room_kinds id (with_asker me password) (λ room h. asking_kinds room h me password its),
    tt,
  )

  pub no_more_kinds : (name : List ℕ) (id : ℕ) → CleanAll s (asks_no_more name id ∷ [])
  no_more_kinds name id = (tt, room_kinds id (without_asker name) (λ room h. asking_gone_kinds room h name), tt)

  pub turned_away_kinds : (name : List ℕ) (reason : List ℕ) (id : ℕ) → Clean (reply.JoinBattleFailed reason)
      → CleanAll s (turned_away name reason id ∷ [])
  turned_away_kinds name reason id clean = (((clean, tt), tt), (no_more_kinds name id).1, tt)

  closes_kinds : (id : ℕ) (b : Battle) → BattleKinds (id, b) → CleanAll s (closes id b ∷ [])
  closes_kinds id b was = (
    ((record { fits = refl; short = omega arith }, tt), ((record { fits = λ i. was.id i && true; short = omega arith }, tt), tt)),
    with_battles _ (each_filter BattleKinds _ s.battles k.battles),
    tt,
  )

  one_leaves_kinds : (name : List ℕ) (id : ℕ) (b : Battle) → IsName name → BattleKinds (id, b) → CleanAll s (member_leaves name id b ∷ [])
  one_leaves_kinds name id b n was =
      (member_leaves_clean name id b n was, room_kinds id (without_member name) (λ room h. left_room_kinds room h name), tt)

  pub leaves_battle_kinds : (name : List ℕ) (id : ℕ) (b : Battle) → IsName name → BattleKinds (id, b) → CleanAll s (leaves_battle name id b ∷ [])
  leaves_battle_kinds name id b n was =
      elim (is_founder name b) as (λ t. CleanAll s ((if t then closes id b else member_leaves name id b) ∷ [])) [
        | true ↦ closes_kinds id b was
        | false ↦ one_leaves_kinds name id b n was
      ]

  pub opens_kinds : (me : List ℕ) (id : ℕ) (b : Battle) → BattleKinds (id, b) → id ≤ 2147483647 → CleanAll s (opens me id b ∷ [])
  opens_kinds me id b kb small = (
    (
      (clean_opened id b.info kb.id kb.info, tt),
      ((record { fits = λ i. kb.id i && true; short = omega arith }, (record { fits = refl; short = omega arith }, tt)), tt),
    ),
    record {
      users = k.users;
      channels = k.channels;
      battles = each_put nat_cmp nat_cmp-IsAntisymmetric BattleKinds id b s.battles k.battles kb;
      last = small;
      motd = k.motd;
      greeted = k.greeted;
      accounts = k.accounts;
    },
    tt,
  )

  -- users and channels
  pub status_kinds : (me : List ℕ) (status : ℕ) → IsName me → fits status_word status ≡ true → CleanAll s (user_has me status ∷ [])
  status_kinds me status n f = (
    ((clean_status me status n f, tt), tt),
    with_users _ (each_change name_cmp name_cmp_same UserKinds me (user_with status) s.users k.users
        (λ e h. record { name = h.name; country = h.country; short = h.short; cpu = h.cpu; account = h.account; status = f })),
    tt,
  )

  pub gone_kinds : (me : List ℕ) → IsName me → CleanAll s (is_gone me ∷ [])
  gone_kinds me n = (((clean_removed me n, tt), tt), with_users _ (each_filter UserKinds _ s.users k.users), tt)

  pub joins_kinds : (me channel : List ℕ) → IsName me → IsName channel → CleanAll s (joins me channel (names_in s.channels channel) ∷ [])
  joins_kinds me channel n c =
      (joins_clean me channel s.channels n c k.channels, with_channels _ (joined_kinds me channel s.channels n c k.channels), tt)

  pub leaves_kinds : (me channel : List ℕ) → IsName me → IsName channel → CleanAll s (leaves me channel (names_in s.channels channel) ∷ [])
  leaves_kinds me channel n c =
      (leaves_clean me channel (names_in s.channels channel) n c, with_channels _ (left_kinds me channel s.channels k.channels), tt)

  left_letters : (me : List ℕ) (m : Channels) → IsName me → Each ChannelKinds m → CleanLetters (map (λ e. tell (users e.1) (reply.Left e.0 me ∷ [])) m)
  left_letters me [] n h = tt
  left_letters me (e ∷ m) n h = ((clean_left e.0 me h.0.name n, tt), left_letters me m n h.1)

  without_all : (me : List ℕ) (m : Channels) → Each ChannelKinds m → Each ChannelKinds (map_values (λ channel names. all_but me names) m)
  without_all me [] h = tt
  without_all me (e ∷ m) h = (record { name = h.0.name; names = each_filter IsName _ e.1 h.0.names }, without_all me m h.1)

  pub leaves_all_kinds : (me : List ℕ) → IsName me → CleanAll s (leaves_all me s ∷ [])
  leaves_all_kinds me n = (
    left_letters me (channels_of me s.channels) n (each_filter ChannelKinds (λ e. is_among me e.1) s.channels k.channels),
    with_channels _ (each_filter ChannelKinds _ _ (without_all me s.channels k.channels)),
    tt,
  )

  -- a login
  clean_battles : (m : ByNumber Battle) → Each BattleKinds m → Each Clean (flat_map (λ e. battle_lines e.0 e.1) m)
  clean_battles [] h = tt
  clean_battles (e ∷ m) h =
      each_append Clean (battle_lines e.0 e.1) (flat_map (λ e. battle_lines e.0 e.1) m) (clean_battle e.0 e.1 h.0) (clean_battles m h.1)

  pub login_clean : (c : ℕ) (name : List ℕ) (user : User) → UserKinds (name, user) → CleanLetters (logs_in c name user s).told
  login_clean c name user ku =
      let there = each_put name_cmp name_cmp_same UserKinds name user s.users k.users ku in (
        (
          record { fits = λ i. ku.name i && true; short = omega arith },
          each_append Clean (map (λ t. reply.Motd t) s.settings.motd) _
              (each_map (λ t. Clean (reply.Motd t)) Clean (λ t. reply.Motd t) (λ t h. h) s.settings.motd k.motd)
              (each_append Clean (map (λ e. added e.0 e.1) (put_name s.users name user)) _ (clean_users (put_name s.users name user) there)
              (each_append Clean (flat_map (λ e. shown_status e.0 e.1) (put_name s.users name user)) _ (clean_statuses (put_name s.users name user) there)
              (each_append Clean (flat_map (λ e. battle_lines e.0 e.1) s.battles) (reply.LoginInfoEnd ∷ []) (clean_battles s.battles k.battles)
              (record { fits = refl; short = omega arith }, tt)))),
        ),
        (clean_arrival name user ku, tt),
      )

  pub logs_in_kinds : (c : ℕ) (name : List ℕ) (user : User) → UserKinds (name, user) → Kinds ((logs_in c name user s).after s)
  logs_in_kinds c name user ku = record {
    users = each_put name_cmp name_cmp_same UserKinds name user s.users k.users ku;
    channels = k.channels;
    battles = k.battles;
    last = k.last;
    motd = k.motd;
    greeted = k.greeted;
    accounts = k.accounts;
  }

-- what is not told to the one who goes is clean too
unseen_letters : (letters : List Letter) → CleanLetters letters → CleanLetters (map to_others letters)
unseen_letters [] h = tt
unseen_letters (l ∷ letters) h = (h.0, unseen_letters letters h.1)

unseen_clean : (s : State) (h : Happening) → CleanAll s (h ∷ []) → CleanLetters (unseen h).told × Kinds ((unseen h).after s)
unseen_clean s h c = (unseen_letters h.told c.0, c.1)

-- a message
pub message_clean : (text : List ℕ) → is_text text ≡ true → length text ≤ 8192 → Clean (reply.ServerMsg text)
message_clean text t short = record { fits = λ i. t i && true; short = omega arith }

-- a log out
pub logs_out_clean : (me : List ℕ) (s : State) → Kinds s → IsName me → CleanAll s (logs_out s (Some me))
logs_out_clean me s k n =
    let all = unseen_clean s (leaves_all me s) (leaves_all_kinds s k me n) in (
      all.0,
      all.1,
      dropping (record s { channels = all_left me s.channels }) all.1 (asked_by s me) (battle_of s me)
          (λ e is. each_found BattleKinds (λ e. has_member me e.1.room) s.battles e k.battles is),
    )
  where
    with_battle : (t : State) → Kinds t → (o : Option (ℕ × Battle)) → ((e : ℕ × Battle) → o ≡ Some e → BattleKinds e)
        → CleanAll t (map unseen (leaves_own me o ++ is_gone me ∷ []))
    with_battle t kt None each = let gone = unseen_clean t (is_gone me) (gone_kinds t kt me n) in (gone.0, gone.1, tt)
    with_battle t kt (Some e) each =
        elim (is_founder me e.1) as (λ b. CleanAll t (unseen (if b then closes e.0 e.1 else member_leaves me e.0 e.1) ∷ unseen (is_gone me) ∷ [])) [
          | true ↦
              let closed = unseen_clean t (closes e.0 e.1) (closes_kinds t kt e.0 e.1 (each e refl)) in
              let gone = unseen_clean _ (is_gone me) (gone_kinds _ closed.1 me n) in
              (closed.0, closed.1, (gone.0, gone.1, tt))
          | false ↦
              let left = unseen_clean t (member_leaves me e.0 e.1) (one_leaves_kinds t kt me e.0 e.1 n (each e refl)) in
              let gone = unseen_clean _ (is_gone me) (gone_kinds _ left.1 me n) in
              (left.0, left.1, (gone.0, gone.1, tt))
        ]

    dropping : (t : State) → Kinds t → (asked own : Option (ℕ × Battle)) → ((e : ℕ × Battle) → own ≡ Some e → BattleKinds e)
        → CleanAll t (map unseen (drops_own me asked ++ (leaves_own me own ++ is_gone me ∷ [])))
    dropping t kt None own each = with_battle t kt own each
    dropping t kt (Some e) own each =
        let dropped = unseen_clean t (asks_no_more me e.0) (no_more_kinds t kt me e.0) in
        (dropped.0, dropped.1, with_battle ((asks_no_more me e.0).after t) dropped.1 own each)
