-- Each command keeps the lobby sound.
use Rattle.std.proofs.Common.{◌≡◌, ℕ, List, refl, true}
use Rattle.std.specs.Prelude.{Option, Some, None, IsSome}
use Rattle.account_book.specs.Book.{login}
use Rattle.reply_kinds.specs.declared.Reply.{Reply}
use Rattle.command_grammar.specs.declared.command.Command.{Command}
use Rattle.command_grammar.specs.declared.command.Command.TheVariants as command
use Rattle.status_bits.specs.Fields.{merge}
use Rattle.status_bits.specs.UserWord.{user_table}
use Rattle.line_words.specs.Table.{at_name, at_number}
use Rattle.channel_book.specs.Channels.{names_in}
use Rattle.room_lists.specs.Room.{Room, has_member}
use Rattle.lobby_model.specs.State.{State, Client, Battle, battle_of, name_of, updated}
use Rattle.lobby_model.specs.Outcome.{Happening, Outcome, state_after}
use Rattle.lobby_model.specs.Battles.{change_room, address}
use Rattle.lobby_model.specs.Rooms.{new_bot}
use Rattle.lobby_model.specs.Sessions.{status_in}
use Rattle.lobby_model.specs.Commands.{answer}
use Rattle.lobby_model.specs.Sound.{Sound}
use Rattle.lobby_model.proofs.Clauses.{RoomDeed, battle_said, battle_said_ex, shows_status, forced, coloured, bot_added, bot_has, bot_removed, rect_added, rect_removed, tags_set, tags_removed, units_disabled, units_enabled, all_enabled, Deed, tells, joins_channel, leaves_channel, opens_one, joins_one, asks_one, asks_none, leaves_one, in_its_room, informs, lets_one_in, turns_away, Clause, refused, nothing_done, one, kicks, clause_of}
use Rattle.lobby_model.proofs.AskersKept.{found_asks}
use Rattle.lobby_model.proofs.ChannelsKept as channels
use Rattle.lobby_model.proofs.BattlesKept as battles
use Rattle.lobby_model.proofs.SessionsKept as sessions

module _ (s : State) (sound : Sound s) where
  abbrev Keeps : Outcome → Type 0
  Keeps o = Sound (state_after s o)

  -- of a user
  module _ (me : List ℕ) (known : IsSome (at_name s.users me)) where
    -- the battle of a user is there
    its_own : (id : ℕ) (battle : Battle) → battle_of s me ≡ Some (id, battle) → at_number s.battles id ≡ Some battle
    its_own id battle own = (battles.own_battle s sound me id battle own).0

    room_change_keeps : (id : ℕ) (battle : Battle) → at_number s.battles id ≡ Some battle → has_member me battle.room ≡ true
        → {asked : Command} {f : Room → Room} {lines : List Reply} → RoomDeed me id battle asked f lines → Sound (change_room s id f)
    room_change_keeps id battle there in_it (battle_said text) = battles.said_keeps s sound id battle there
    room_change_keeps id battle there in_it (battle_said_ex text) = battles.said_keeps s sound id battle there
    room_change_keeps id battle there in_it (shows_status asked colour) = battles.member_has_keeps s sound id battle there me _ colour
    room_change_keeps id battle there in_it (forced {name} force) = battles.member_has_keeps s sound id battle there name _ _
    room_change_keeps id battle there in_it (coloured name colour) = battles.member_has_keeps s sound id battle there name _ colour
    room_change_keeps id battle there in_it (bot_added name asked colour ai new) =
        battles.bot_added_keeps s sound id battle there (new_bot name me asked colour ai) in_it new
    room_change_keeps id battle there in_it (bot_has name asked colour old) = battles.bot_has_keeps s sound id battle there name _ colour
    room_change_keeps id battle there in_it (bot_removed name) = battles.bot_removed_keeps s sound id battle there name
    room_change_keeps id battle there in_it (rect_added number left top right bottom) = battles.rect_added_keeps s sound id battle there number _
    room_change_keeps id battle there in_it (rect_removed number) = battles.rect_removed_keeps s sound id battle there number
    room_change_keeps id battle there in_it (tags_set pairs) = battles.tags_set_keeps s sound id battle there pairs
    room_change_keeps id battle there in_it (tags_removed keys) = battles.tags_removed_keeps s sound id battle there keys
    room_change_keeps id battle there in_it (units_disabled words few) = battles.units_disabled_keeps s sound id battle there words few
    room_change_keeps id battle there in_it (units_enabled words) = battles.units_enabled_keeps s sound id battle there words
    room_change_keeps id battle there in_it all_enabled = battles.all_enabled_keeps s sound id battle there

    deed_keeps : (c : ℕ) {asked : Command} {h : Happening} → Deed s c me asked h → Sound (h.after s)
    deed_keeps c (tells told) = sound
    deed_keeps c (joins_channel channel key out) = channels.joins_keeps s sound me channel (names_in s.channels channel) out known
    deed_keeps c (leaves_channel channel in_it) = channels.leaves_keeps s sound me channel (names_in s.channels channel)
    deed_keeps c (opens_one battle_type nat_type password port max_players game_hash rank map_hash engine_name engine_version map title game_name free silent left) =
        battles.opens_keeps s sound me _ refl refl free silent known
    deed_keeps c (joins_one id password script_password battle there free silent) =
        battles.joins_battle_keeps s sound id battle there me script_password free silent known
    deed_keeps c (asks_one id password script_password battle there free silent) =
        battles.asks_to_join_keeps s sound id battle there me script_password (address (at_number s.clients c)) free silent known
    deed_keeps c (asks_none e asks) = battles.asks_no_more_keeps s sound e.0 e.1 (battles.own_request s sound me e asks).0 me
    deed_keeps c (leaves_one id battle own) = battles.leaves_battle_keeps s sound id battle (its_own id battle own) me
    deed_keeps c (in_its_room id battle own change) =
        let at = battles.own_battle s sound me id battle own in room_change_keeps id battle at.0 at.1 change
    deed_keeps c (informs id battle own spectators locked map_hash map) =
        battles.info_keeps s sound id battle (its_own id battle own) (updated spectators locked map_hash map) refl
    deed_keeps c (lets_one_in id battle own name asker found) =
        battles.let_into_keeps s sound id battle (its_own id battle own) asker (found_asks name battle asker found)
    deed_keeps c (turns_away id battle own name reason) = battles.asks_no_more_keeps s sound id battle (its_own id battle own) name

    clause_keeps : (c : ℕ) {asked : Command} {o : Outcome} → Clause s c me asked o → Keeps o
    clause_keeps c (refused why) = sound
    clause_keeps c nothing_done = sound
    clause_keeps c (one deed) = deed_keeps c deed
    clause_keeps c (kicks id battle own name in_it) = battles.leaves_battle_keeps s sound id battle (its_own id battle own) name

    -- all commands but EXIT and LOGIN
    abbrev IsOfUser : Command → Type 0
    IsOfUser command.Exit = ⊥
    IsOfUser (command.Login name password cpu local_ip lobby authorises) = ⊥
    IsOfUser command = Unit {0}

    pub user_keeps : (c : ℕ) (command : Command) → IsOfUser command → Keeps (answer s c (Some me) command)
    user_keeps c command.Exit own = absurd own
    user_keeps c (command.Login name password cpu local_ip lobby authorises) own = absurd own
    user_keeps c (command.MyStatus asked) own = sessions.user_has_keeps s sound me (merge user_table (status_in (at_name s.users me)) asked)
    user_keeps c command own = clause_keeps c (clause_of s c me command refl)

  -- of a client that is there
  module _ (c : ℕ) (client : Client) (there : at_number s.clients c ≡ Some client) where
    exit_keeps : (me : Option (List ℕ)) → name_of s c ≡ me → Keeps (answer s c me command.Exit)
    exit_keeps me named = sessions.departs_keeps s sound c _ (sessions.ends_unnames c) me named

    named_keeps : (me : List ℕ) → name_of s c ≡ Some me → (command : Command) → Keeps (answer s c (Some me) command)
    named_keeps me named command.Exit = exit_keeps (Some me) named
    named_keeps me named (command.Login name password cpu local_ip lobby authorises) = sound
    named_keeps me named command = user_keeps me (sound.clients.one_for_each.has_user c me named) c command tt

    unnamed_keeps : name_of s c ≡ None → (command : Command) → Keeps (answer s c None command)
    unnamed_keeps unnamed command.Blank = sound
    unnamed_keeps unnamed (command.Unread fault) = sound
    unnamed_keeps unnamed command.Ping = sound
    unnamed_keeps unnamed command.Exit = exit_keeps None unnamed
    unnamed_keeps unnamed (command.Login name password cpu local_ip lobby authorises) =
        sessions.log_in_keeps s sound c cpu authorises (login s.accounts name password) client there unnamed
    unnamed_keeps unnamed command = sound

    pub answer_keeps : (me : Option (List ℕ)) → name_of s c ≡ me → (command : Command) → Keeps (answer s c me command)
    answer_keeps None unnamed command = unnamed_keeps unnamed command
    answer_keeps (Some me) named command = named_keeps me named command
