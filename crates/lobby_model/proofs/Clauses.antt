-- What each command of a user comes to: a refusal, or one of a few kinds of thing that happen, with what the checks before it found.
-- The table at the end walks the checks of each command once. A law of all commands is proved for each kind, and holds by the table.
use Rattle.std.proofs.Common.{◌≡◌, ℕ, ◌+◌, ℤ, List, [], ◌∷◌, ◌++◌, refl, Bool, true, false, not}
use Rattle.std.specs.Prelude.{Option, Some, None, map, length, ◌&&◌, nat_le, ◌==◌, is_some}
use Rattle.reply_kinds.specs.declared.Reply.{Reply}
use Rattle.reply_kinds.specs.declared.Reply.TheVariants as reply
use Rattle.command_grammar.specs.declared.command.Command.{Command}
use Rattle.command_grammar.specs.declared.command.Command.TheVariants as command
use Rattle.command_grammar.specs.declared.command.ReadFault.{ReadFault}
use Rattle.status_bits.specs.Fields.{Field, merge, with_number}
use Rattle.status_bits.specs.BattleWord.{battle_table, team, ally, player, handicap}
use Rattle.line_words.specs.Bytes.{is_text}
use Rattle.line_words.specs.declared.lists.Pair.{Pair}
use Rattle.line_words.specs.Table.{at_name, at_number, is_among}
use Rattle.channel_book.specs.Channels.{names_in}
use Rattle.room_lists.specs.Tags.{keys_there}
use Rattle.room_lists.specs.Units.{with_units, words_new, words_there}
use Rattle.room_lists.specs.Room.{Room, Asker, has_member, with_status, status_of, colour_of, bot_of, with_bot, with_bot_status, without_bot, with_rect, without_rect, set_tags, remove_tags, disable_units, enable_units, enable_all, has_too_many_units, asker_of}
use Rattle.lobby_model.specs.State.{State, Battle, battle_of, asked_by, updated}
use Rattle.lobby_model.specs.Texts.{already_in_channel, not_in_channel, no_such_user, already_in_battle, already_asking, no_number_left, no_such_battle, battle_is_locked, wrong_password, not_in_battle, not_the_founder, no_such_member, no_such_request, no_such_bot, not_your_bot, cannot_kick_yourself, bot_name_taken, too_many_bots, too_many_tags, too_many_units, fault_text}
use Rattle.lobby_model.specs.Outcome.{Letter, Happening, Outcome, Refused, Done, tell, issuer, everyone, user, users, happens, done, only_told, refuse_if, message}
use Rattle.lobby_model.specs.Channels.{joins, leaves, say_in_channel}
use Rattle.lobby_model.specs.Battles.{change_room, change_info, members, new_battle, opens, joins_battle, asks_to_join, joins_or_asks, is_authorising, let_into, turned_away, reason_or_default, asks_no_more, leaves_battle, in_battle, as_founder, lets_in, address, bot_line, rect_line, updated_line}
use Rattle.lobby_model.specs.Rooms.{new_bot, removed_line, disabled_line, enabled_line, with_member_of, force_number}
use Rattle.lobby_model.specs.Commands.{answer}
use Rattle.lobby_model.proofs.Checked as checked
use Rattle.lobby_model.proofs.Checked.{Refusals}

-- a text that fits into a line
abbrev pub is_short_text : List ℕ → Bool
is_short_text text = is_text text && nat_le (length text) 8192

-- a line that says why not
pub data Refusal : Command → Reply → Type 0 where
  by_message : {asked : Command} (text : List ℕ) → is_short_text text ≡ true → Refusal asked (message text)
  unread : (fault : ReadFault) → Refusal (command.Unread fault) (message (fault_text fault))
  no_joining : (channel : List ℕ) (key : Option (List ℕ)) (text : List ℕ) → is_short_text text ≡ true
      → Refusal (command.Join channel key) (reply.JoinFailed channel text)
  no_opening : {asked : Command} (text : List ℕ) → is_short_text text ≡ true → Refusal asked (reply.OpenBattleFailed text)
  no_entering : {asked : Command} (text : List ℕ) → is_short_text text ≡ true → Refusal asked (reply.JoinBattleFailed text)

-- what is told and changes nothing
pub data Told (s : State) (me : List ℕ) : Command → List Letter → Type 0 where
  pong : Told s me command.Ping (tell issuer (reply.Pong ∷ []) ∷ [])
  all_channels : Told s me command.Channels
      (tell issuer (map (λ e. reply.Channel e.0 (length e.1)) s.channels ++ reply.EndOfChannels ∷ []) ∷ [])
  said : (channel text : List ℕ)
      → Told s me (command.Say channel text) (tell (users (names_in s.channels channel)) (reply.Said channel me text ∷ []) ∷ [])
  said_ex : (channel text : List ℕ)
      → Told s me (command.SayEx channel text) (tell (users (names_in s.channels channel)) (reply.SaidEx channel me text ∷ []) ∷ [])
  said_private : (target text : List ℕ) → Told s me (command.SayPrivate target text)
      (tell issuer (reply.SayPrivate target text ∷ []) ∷ tell (user target) (reply.SaidPrivate me text ∷ []) ∷ [])
  rung : (name : List ℕ) → Told s me (command.Ring name) (tell (user name) (reply.Ring me ∷ []) ∷ [])

-- the founder sets a number in a member's status
pub data Forces : Command → List ℕ → Field → ℕ → Type 0 where
  gives_handicap : (name : List ℕ) (value : ℕ) → Forces (command.Handicap name value) name handicap value
  puts_into_team : (name : List ℕ) (number : ℕ) → Forces (command.ForceTeamNo name number) name team number
  puts_into_ally : (name : List ℕ) (number : ℕ) → Forces (command.ForceAllyNo name number) name ally number
  makes_spectator : (name : List ℕ) → Forces (command.ForceSpectatorMode name) name player 0

-- told to the members of a battle by lines that do to its room what happened
abbrev pub told_members : ℕ → Battle → (Room → Room) → List Reply → Happening
told_members id battle f lines = happens (λ s. change_room s id f) (tell (users (members battle)) lines ∷ [])

abbrev pub has_status : List ℕ → ℕ → ℤ → List Reply
has_status name status colour = reply.ClientBattleStatus name status colour ∷ []

-- what a member does to the room of its battle, with the lines that tell it
pub data RoomDeed (me : List ℕ) (id : ℕ) (battle : Battle) : Command → (Room → Room) → List Reply → Type 0 where
  battle_said : (text : List ℕ) → RoomDeed me id battle (command.SayBattle text) (λ room. room) (reply.SaidBattle me text ∷ [])
  battle_said_ex : (text : List ℕ) → RoomDeed me id battle (command.SayBattleEx text) (λ room. room) (reply.SaidBattleEx me text ∷ [])
  shows_status : (asked : ℕ) (colour : ℤ) → RoomDeed me id battle (command.MyBattleStatus asked colour)
      (with_status me (merge battle_table (status_of me battle.room) asked) colour)
      (has_status me (merge battle_table (status_of me battle.room) asked) colour)
  forced : {asked : Command} {name : List ℕ} {field : Field} {number : ℕ} → Forces asked name field number → RoomDeed me id battle asked
      (with_status name (with_number battle_table field number (status_of name battle.room)) (colour_of name battle.room))
      (has_status name (with_number battle_table field number (status_of name battle.room)) (colour_of name battle.room))
  coloured : (name : List ℕ) (colour : ℤ) → RoomDeed me id battle (command.ForceTeamColor name colour)
      (with_status name (status_of name battle.room) colour) (has_status name (status_of name battle.room) colour)
  bot_added : (name : List ℕ) (asked : ℕ) (colour : ℤ) (ai : List ℕ) → is_some (bot_of name battle.room) ≡ false
      → RoomDeed me id battle (command.AddBot name asked colour ai) (with_bot (new_bot name me asked colour ai))
      (bot_line id (new_bot name me asked colour ai) ∷ [])
  bot_has : (name : List ℕ) (asked : ℕ) (colour : ℤ) (old : ℕ) → RoomDeed me id battle (command.UpdateBot name asked colour)
      (with_bot_status name (merge battle_table old asked) colour) (reply.UpdateBot id name (merge battle_table old asked) colour ∷ [])
  bot_removed : (name : List ℕ) → RoomDeed me id battle (command.RemoveBot name) (without_bot name) (reply.RemoveBot id name ∷ [])
  rect_added : (number left top right bottom : ℕ) → RoomDeed me id battle (command.AddStartRect number left top right bottom)
      (with_rect number (record { left = left; top = top; right = right; bottom = bottom }))
      (rect_line number (record { left = left; top = top; right = right; bottom = bottom }) ∷ [])
  rect_removed : (number : ℕ) → RoomDeed me id battle (command.RemoveStartRect number) (without_rect number) (reply.RemoveStartRect number ∷ [])
  tags_set : (pairs : List Pair) → RoomDeed me id battle (command.SetScriptTags pairs) (set_tags pairs) (reply.SetScriptTags pairs ∷ [])
  tags_removed : (keys : List (List ℕ)) → RoomDeed me id battle (command.RemoveScriptTags keys) (remove_tags keys)
      (removed_line (keys_there battle.room.tags keys))
  units_disabled : (words : List (List ℕ)) → has_too_many_units (with_units battle.room.units words) ≡ false
      → RoomDeed me id battle (command.DisableUnits words) (disable_units words) (disabled_line (words_new battle.room.units words))
  units_enabled : (words : List (List ℕ)) → RoomDeed me id battle (command.EnableUnits words) (enable_units words)
      (enabled_line (words_there battle.room.units words))
  all_enabled : RoomDeed me id battle command.EnableAllUnits enable_all (reply.EnableAllUnits ∷ [])

-- one thing that happens at a command of client c, which is the user me: in channels and battles alone
pub data Deed (s : State) (c : ℕ) (me : List ℕ) : Command → Happening → Type 0 where
  tells : {asked : Command} {letters : List Letter} → Told s me asked letters → Deed s c me asked (only_told letters)
  joins_channel : (channel : List ℕ) (key : Option (List ℕ)) → is_among me (names_in s.channels channel) ≡ false
      → Deed s c me (command.Join channel key) (joins me channel (names_in s.channels channel))
  leaves_channel : (channel : List ℕ) → is_among me (names_in s.channels channel) ≡ true
      → Deed s c me (command.Leave channel) (leaves me channel (names_in s.channels channel))
  opens_one : (battle_type nat_type : ℕ) (password : List ℕ) (port max_players : ℕ) (game_hash rank map_hash : ℤ)
      (engine_name engine_version map title game_name : List ℕ)
      → battle_of s me ≡ None → asked_by s me ≡ None → (s.last_battle == 2147483647) ≡ false
      → Deed s c me
      (command.OpenBattle battle_type nat_type password port max_players game_hash rank map_hash engine_name engine_version map title game_name)
      (opens me (s.last_battle + 1) (new_battle me (address (at_number s.clients c)) battle_type nat_type password port max_players game_hash rank map_hash engine_name
      engine_version map title game_name))
  joins_one : (id : ℕ) (password script_password : Option (List ℕ)) (battle : Battle) → at_number s.battles id ≡ Some battle → battle_of s me ≡ None
      → asked_by s me ≡ None → Deed s c me (command.JoinBattle id password script_password) (joins_battle me id battle script_password)
  asks_one : (id : ℕ) (password script_password : Option (List ℕ)) (battle : Battle) → at_number s.battles id ≡ Some battle → battle_of s me ≡ None
      → asked_by s me ≡ None
      → Deed s c me (command.JoinBattle id password script_password) (asks_to_join me id battle script_password (address (at_number s.clients c)))
  asks_none : (e : ℕ × Battle) → asked_by s me ≡ Some e → Deed s c me command.LeaveBattle (asks_no_more me e.0)
  leaves_one : (id : ℕ) (battle : Battle) → battle_of s me ≡ Some (id, battle) → Deed s c me command.LeaveBattle (leaves_battle me id battle)
  in_its_room : (id : ℕ) (battle : Battle) → battle_of s me ≡ Some (id, battle) → {asked : Command} {f : Room → Room} {lines : List Reply}
      → RoomDeed me id battle asked f lines → Deed s c me asked (told_members id battle f lines)
  informs : (id : ℕ) (battle : Battle) → battle_of s me ≡ Some (id, battle) → (spectators : ℕ) (locked : Bool) (map_hash : ℤ) (map : List ℕ)
      → Deed s c me (command.UpdateBattleInfo spectators locked map_hash map)
      (happens (λ t. change_info t id (updated spectators locked map_hash map))
      (tell everyone (updated_line id (updated spectators locked map_hash map battle.info) ∷ []) ∷ []))
  lets_one_in : (id : ℕ) (battle : Battle) → battle_of s me ≡ Some (id, battle) → (name : List ℕ) (asker : Asker)
      → asker_of name battle.room ≡ Some asker → Deed s c me (command.JoinBattleAccept name) (let_into asker id battle)
  turns_away : (id : ℕ) (battle : Battle) → battle_of s me ≡ Some (id, battle) → (name : List ℕ) (reason : Option (List ℕ))
      → Deed s c me (command.JoinBattleDeny name reason) (turned_away name (reason_or_default reason) id)

-- what a command comes to
pub data Clause (s : State) (c : ℕ) (me : List ℕ) : Command → Outcome → Type 0 where
  refused : {asked : Command} {refusal : Reply} → Refusal asked refusal → Clause s c me asked (Refused refusal)
  nothing_done : Clause s c me command.Blank (Done [])
  one : {asked : Command} {happening : Happening} → Deed s c me asked happening → Clause s c me asked (done happening)
  kicks : (id : ℕ) (battle : Battle) → battle_of s me ≡ Some (id, battle) → (name : List ℕ) → has_member name battle.room ≡ true
      → Clause s c me (command.KickFromBattle name)
      (Done (only_told (tell (user name) (reply.ForceQuitBattle ∷ []) ∷ []) ∷ leaves_battle name id battle ∷ []))

-- the commands by which one comes, goes or shows a status
abbrev pub is_outside : Command → Bool
is_outside command.Exit = true
is_outside (command.Login name password cpu local_ip lobby authorises) = true
is_outside (command.MyStatus asked) = true
is_outside command = false

module _ (s : State) (c : ℕ) (me : List ℕ) where
  -- ways of checking, and what they let through
  owed : (asked : Command) → Refusals (Clause s c me asked)
  owed asked = record {
    no_such_battle = refused (no_entering no_such_battle refl);
    not_in_battle = refused (by_message not_in_battle refl);
    not_the_founder = refused (by_message not_the_founder refl);
    no_such_request = refused (by_message no_such_request refl);
    no_such_bot = refused (by_message no_such_bot refl);
    not_your_bot = refused (by_message not_your_bot refl);
  }

  stops : {asked : Command} {failing : Bool} {refusal : Reply} {rest : Outcome} → Refusal asked refusal
      → (failing ≡ false → Clause s c me asked rest) → Clause s c me asked (refuse_if failing refusal rest)
  stops why rest = checked.refuse (Clause s c me _) _ _ _ (refused why) rest

  wants : {asked : Command} {passing : Bool} {refusal : Reply} {rest : Outcome} → Refusal asked refusal
      → (passing ≡ true → Clause s c me asked rest) → Clause s c me asked (refuse_if (not passing) refusal rest)
  wants why rest = checked.demand (Clause s c me _) _ _ _ (refused why) rest

  wants_none : {asked : Command} {A : Type 0} {o : Option A} {refusal : Reply} {rest : Outcome} → Refusal asked refusal
      → (o ≡ None → Clause s c me asked rest) → Clause s c me asked (refuse_if (is_some o) refusal rest)
  wants_none why rest = checked.demand_none (Clause s c me _) _ _ _ (refused why) rest

  says_in : {asked : Command} (channel : List ℕ) {line : Reply} → Told s me asked (tell (users (names_in s.channels channel)) (line ∷ []) ∷ [])
      → Clause s c me asked (say_in_channel s me channel line)
  says_in channel told = wants (by_message not_in_channel refl) (λ in_it. one (tells told))

  in_its_battle : {asked : Command} {rest : ℕ → Battle → Outcome}
      → ((id : ℕ) (battle : Battle) → battle_of s me ≡ Some (id, battle) → Clause s c me asked (rest id battle)) → Clause s c me asked (in_battle s me rest)
  in_its_battle rest = checked.in_a_battle (Clause s c me _) (owed _) s me _ rest

  in_founded : {asked : Command} {rest : ℕ → Battle → Outcome}
      → ((id : ℕ) (battle : Battle) → battle_of s me ≡ Some (id, battle) → Clause s c me asked (rest id battle)) → Clause s c me asked (as_founder s me rest)
  in_founded rest = checked.as_its_founder (Clause s c me _) (owed _) s me _ (λ id battle own founds. rest id battle own)

  by_member : {asked : Command} {f : ℕ → Battle → Room → Room} {lines : ℕ → Battle → List Reply}
      → ((id : ℕ) (battle : Battle) → RoomDeed me id battle asked (f id battle) (lines id battle))
      → Clause s c me asked (in_battle s me (λ id battle. done (told_members id battle (f id battle) (lines id battle))))
  by_member change = in_its_battle (λ id battle own. one (in_its_room id battle own (change id battle)))

  by_founder : {asked : Command} {f : ℕ → Battle → Room → Room} {lines : ℕ → Battle → List Reply}
      → ((id : ℕ) (battle : Battle) → RoomDeed me id battle asked (f id battle) (lines id battle))
      → Clause s c me asked (as_founder s me (λ id battle. done (told_members id battle (f id battle) (lines id battle))))
  by_founder change = in_founded (λ id battle own. one (in_its_room id battle own (change id battle)))

  of_member : {asked : Command} (name : List ℕ) {f : ℕ → Battle → Room → Room} {lines : ℕ → Battle → List Reply}
      → ((id : ℕ) (battle : Battle) → RoomDeed me id battle asked (f id battle) (lines id battle))
      → Clause s c me asked (with_member_of s me name (λ id battle. told_members id battle (f id battle) (lines id battle) ∷ []))
  of_member name change = in_founded (λ id battle own. wants (by_message no_such_member refl) (λ in_it. one (in_its_room id battle own (change id battle))))

  forces : {asked : Command} {name : List ℕ} {field : Field} {number : ℕ} → Forces asked name field number
      → Clause s c me asked (force_number s me name field number)
  forces {name = name} force = of_member name (λ id battle. forced force)

  -- the table
  pub clause_of : (asked : Command) → is_outside asked ≡ false → Clause s c me asked (answer s c (Some me) asked)
  clause_of command.Exit e = absurd (cc)
  clause_of (command.Login name password cpu local_ip lobby authorises) e = absurd (cc)
  clause_of (command.MyStatus asked) e = absurd (cc)
  clause_of command.Blank e = nothing_done
  clause_of (command.Unread fault) e = refused (unread fault)
  clause_of command.Ping e = one (tells pong)
  clause_of (command.Join channel key) e = stops (no_joining channel key already_in_channel refl) (λ out. one (joins_channel channel key out))
  clause_of (command.Leave channel) e = wants (by_message not_in_channel refl) (λ in_it. one (leaves_channel channel in_it))
  clause_of (command.Say channel text) e = says_in channel (said channel text)
  clause_of (command.SayEx channel text) e = says_in channel (said_ex channel text)
  clause_of (command.SayPrivate target text) e = wants (by_message no_such_user refl) (λ known. one (tells (said_private target text)))
  clause_of command.Channels e = one (tells all_channels)
  clause_of (command.OpenBattle battle_type nat_type password port max_players game_hash rank map_hash engine_name engine_version map title game_name) e =
      wants_none (no_opening already_in_battle refl)
      (λ free. wants_none (no_opening already_asking refl)
      (λ silent. stops (no_opening no_number_left refl)
      (λ left. one (opens_one battle_type nat_type password port max_players game_hash rank map_hash engine_name engine_version map title game_name
      free silent left))))
  clause_of (command.JoinBattle id password script_password) e =
      wants_none (no_entering already_in_battle refl)
      (λ free. wants_none (no_entering already_asking refl)
      (λ silent. checked.there (Clause s c me _) (owed _) (at_number s.battles id) _
      (λ battle there. stops {failing = battle.info.locked} (no_entering battle_is_locked refl)
      (λ unlocked. wants {passing = lets_in battle.password password} (no_entering wrong_password refl)
      (λ let_in. elim (is_authorising (at_name s.users battle.info.founder)) as (λ asks.
      Clause s c me (command.JoinBattle id password script_password)
      (done (joins_or_asks asks me id battle script_password (address (at_number s.clients c))))) [
        | true ↦ one (asks_one id password script_password battle there free silent)
        | false ↦ one (joins_one id password script_password battle there free silent)
      ])))))
  clause_of command.LeaveBattle e =
      checked.on_leaving (Clause s c me _) (owed _) s me (λ e asks. one (asks_none e asks)) (λ silent id battle own. one (leaves_one id battle own))
  clause_of (command.UpdateBattleInfo spectators locked map_hash map) e =
      in_founded (λ id battle own. one (informs id battle own spectators locked map_hash map))
  clause_of (command.JoinBattleAccept name) e =
      checked.with_an_asker (Clause s c me _) (owed _) s me name _ (λ id battle asker own founds found. one (lets_one_in id battle own name asker found))
  clause_of (command.JoinBattleDeny name reason) e =
      checked.with_an_asker (Clause s c me _) (owed _) s me name _ (λ id battle asker own founds found. one (turns_away id battle own name reason))
  clause_of (command.MyBattleStatus asked colour) e = by_member (λ id battle. shows_status asked colour)
  clause_of (command.SayBattle text) e = by_member (λ id battle. battle_said text)
  clause_of (command.SayBattleEx text) e = by_member (λ id battle. battle_said_ex text)
  clause_of (command.AddBot bot asked colour ai) e =
      in_its_battle (λ id battle own. stops (by_message bot_name_taken refl)
      (λ new. stops (by_message too_many_bots refl) (λ few. one (in_its_room id battle own (bot_added bot asked colour ai new)))))
  clause_of (command.UpdateBot bot asked colour) e =
      checked.with_a_bot (Clause s c me _) (owed _) s me bot _
      (λ id battle it own found mine. one (in_its_room id battle own (bot_has bot asked colour it.status)))
  clause_of (command.RemoveBot bot) e =
      checked.with_a_bot (Clause s c me _) (owed _) s me bot _ (λ id battle it own found mine. one (in_its_room id battle own (bot_removed bot)))
  clause_of (command.AddStartRect number left top right bottom) e = by_founder (λ id battle. rect_added number left top right bottom)
  clause_of (command.RemoveStartRect number) e = by_founder (λ id battle. rect_removed number)
  clause_of (command.SetScriptTags pairs) e =
      in_founded (λ id battle own. stops (by_message too_many_tags refl) (λ few. one (in_its_room id battle own (tags_set pairs))))
  clause_of (command.RemoveScriptTags keys) e = by_founder (λ id battle. tags_removed keys)
  clause_of (command.DisableUnits words) e =
      in_founded (λ id battle own. stops (by_message too_many_units refl) (λ few. one (in_its_room id battle own (units_disabled words few))))
  clause_of (command.EnableUnits words) e = by_founder (λ id battle. units_enabled words)
  clause_of command.EnableAllUnits e = by_founder (λ id battle. all_enabled)
  clause_of (command.Handicap name value) e = forces (gives_handicap name value)
  clause_of (command.ForceTeamNo name number) e = forces (puts_into_team name number)
  clause_of (command.ForceAllyNo name number) e = forces (puts_into_ally name number)
  clause_of (command.ForceTeamColor name colour) e = of_member name (λ id battle. coloured name colour)
  clause_of (command.ForceSpectatorMode name) e = forces (makes_spectator name)
  clause_of (command.KickFromBattle name) e =
      in_founded (λ id battle own. stops (by_message cannot_kick_yourself refl)
      (λ other. wants (by_message no_such_member refl) (λ in_it. kicks id battle own name in_it)))
  clause_of (command.Ring name) e = in_founded (λ id battle own. wants (by_message no_such_member refl) (λ in_it. one (tells (rung name))))
