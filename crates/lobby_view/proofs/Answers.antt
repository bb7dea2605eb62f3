-- Whatever a user's command comes to, each user sees it.
use Rattle.std.proofs.Common.{◌≡◌, ℕ, ◌+◌, List, [], ◌∷◌, refl, Bool, arith}
use Rattle.std.specs.Prelude.{Some, None}
use Rattle.reply_kinds.specs.declared.Reply.{Reply}
use Rattle.reply_kinds.specs.declared.Reply.TheVariants as reply
use Rattle.command_grammar.specs.declared.command.Command.{Command}
use Rattle.command_grammar.specs.declared.command.Command.TheVariants as command
use Rattle.status_bits.specs.Fields.{merge}
use Rattle.status_bits.specs.UserWord.{user_table}
use Rattle.line_words.specs.Table.{at_number, at_name}
use Rattle.room_lists.specs.Room.{Room, with_asker, without_asker}
use Rattle.lobby_model.specs.State.{State, Battle}
use Rattle.lobby_model.specs.Outcome.{Happening, Outcome, Letter, tell, user}
use Rattle.lobby_model.specs.Battles.{reason_or_default, address}
use Rattle.lobby_model.specs.Rooms.{new_bot}
use Rattle.lobby_model.specs.Sessions.{status_in}
use Rattle.lobby_model.specs.Commands.{answer}
use Rattle.lobby_model.specs.Sound.{Sound}
use Rattle.lobby_model.proofs.AskersKept.{found_asks}
use Rattle.lobby_model.proofs.BattlesKept.{own_battle}
use Rattle.lobby_model.proofs.Clauses.{Refusal, by_message, no_joining, Told, pong, all_channels, said, said_ex, said_private, rung, told_members, RoomDeed, battle_said, battle_said_ex, shows_status, forced, coloured, bot_added, bot_has, bot_removed, rect_added, rect_removed, tags_set, tags_removed, units_disabled, units_enabled, all_enabled, Deed, tells, joins_channel, leaves_channel, opens_one, joins_one, asks_one, asks_none, leaves_one, in_its_room, informs, lets_one_in, turns_away, Clause, refused, nothing_done, one, kicks, clause_of}
use Rattle.lobby_view.proofs.Basics.{Seen, SeenOutcome, IsQuiet}
use Rattle.lobby_view.proofs.Left.{leaves_battle_seen}
use Rattle.lobby_view.proofs.Entering.{joins_battle_seen, let_into_seen}
use Rattle.lobby_view.proofs.Users.{status_seen}
use Rattle.lobby_view.proofs.Channels.{joins_seen, leaves_seen}
use Rattle.lobby_view.proofs.InRoom as room
use Rattle.lobby_view.proofs.Opening.{opens_seen, info_seen}
use Rattle.lobby_view.proofs.Quiet.{QuietLetters, told_seen, hidden_seen, quiet_list}

-- a line that refuses changes no view
refusal_quiet : {asked : Command} {line : Reply} → Refusal asked line → IsQuiet line
refusal_quiet (by_message text short) = λ v. refl
refusal_quiet (no_joining channel key text short) = λ v. refl
refusal_quiet _ = λ v. refl

told_quiet : (s : State) (me : List ℕ) {asked : Command} {letters : List Letter} → Told s me asked letters → QuietLetters letters
told_quiet s me pong = (((λ v. refl), tt), tt)
told_quiet s me all_channels = (quiet_list s.channels, tt)
told_quiet s me (said channel text) = (((λ v. refl), tt), tt)
told_quiet s me (said_ex channel text) = (((λ v. refl), tt), tt)
told_quiet s me (said_private target text) = (((λ v. refl), tt), (((λ v. refl), tt), tt))
told_quiet s me (rung name) = (((λ v. refl), tt), tt)

module _ (s : State) (sound : Sound s) (c : ℕ) (me : List ℕ) (mine : Bool) (u : List ℕ) where
  next_is_free : at_number s.battles (s.last_battle + 1) ≡ None
  next_is_free = elim (at_number s.battles (s.last_battle + 1)) as (λ o. at_number s.battles (s.last_battle + 1) ≡ o → o ≡ None) [
    | None ↦ λ e. refl
    | Some battle ↦ λ e. absurd (let below = sound.battles.given (s.last_battle + 1) battle e in omega arith)
  ] refl

  room_change_seen : (id : ℕ) (battle : Battle) → at_number s.battles id ≡ Some battle → {asked : Command} {f : Room → Room} {lines : List Reply}
      → RoomDeed me id battle asked f lines → Seen s mine u (told_members id battle f lines)
  room_change_seen id battle there (battle_said text) = room.said_seen s sound id battle there mine u _ (λ v. refl)
  room_change_seen id battle there (battle_said_ex text) = room.said_seen s sound id battle there mine u _ (λ v. refl)
  room_change_seen id battle there (shows_status asked colour) = room.status_seen s sound id battle there mine u me _ colour
  room_change_seen id battle there (forced {name} force) = room.status_seen s sound id battle there mine u name _ _
  room_change_seen id battle there (coloured name colour) = room.status_seen s sound id battle there mine u name _ colour
  room_change_seen id battle there (bot_added name asked colour ai new) =
      room.bot_added_seen s sound id battle there mine u (new_bot name me asked colour ai)
  room_change_seen id battle there (bot_has name asked colour old) = room.bot_status_seen s sound id battle there mine u name _ colour
  room_change_seen id battle there (bot_removed name) = room.bot_removed_seen s sound id battle there mine u name
  room_change_seen id battle there (rect_added number left top right bottom) = room.rect_added_seen s sound id battle there mine u number _
  room_change_seen id battle there (rect_removed number) = room.rect_removed_seen s sound id battle there mine u number
  room_change_seen id battle there (tags_set pairs) = room.tags_set_seen s sound id battle there mine u pairs
  room_change_seen id battle there (tags_removed keys) = room.tags_removed_seen s sound id battle there mine u keys
  room_change_seen id battle there (units_disabled words few) = room.units_disabled_seen s sound id battle there mine u words
  room_change_seen id battle there (units_enabled words) = room.units_enabled_seen s sound id battle there mine u words
  room_change_seen id battle there all_enabled = room.all_enabled_seen s sound id battle there mine u

  deed_seen : {asked : Command} {h : Happening} → Deed s c me asked h → Seen s mine u h
  deed_seen (tells {letters = letters} told) = told_seen s mine u letters (told_quiet s me told)
  deed_seen (joins_channel channel key out) = joins_seen s sound.channels.in_order me channel mine out u
  deed_seen (leaves_channel channel in_it) = leaves_seen s sound.channels.in_order me channel mine in_it u
  deed_seen (opens_one battle_type nat_type password port max_players game_hash rank map_hash engine_name engine_version map title game_name free silent left) =
      opens_seen s (s.last_battle + 1) next_is_free _ refl password game_hash mine free u
  deed_seen (joins_one id password script_password battle there free silent) = joins_battle_seen s sound mine u id battle there me script_password free
  deed_seen (asks_one id password script_password battle there free silent) =
      hidden_seen s mine u id (with_asker me script_password) (λ room. refl)
      (tell (user battle.info.founder) (reply.JoinBattleRequest me (address (at_number s.clients c)) ∷ []) ∷ []) (((λ v. refl), tt), tt)
  deed_seen (asks_none e asks) = hidden_seen s mine u e.0 (without_asker me) (λ room. refl) [] tt
  deed_seen (leaves_one id battle own) =
      let at = own_battle s sound me id battle own in leaves_battle_seen s sound u id battle at.0 me at.1 mine
  deed_seen (in_its_room id battle own change) = room_change_seen id battle (own_battle s sound me id battle own).0 change
  deed_seen (informs id battle own spectators locked map_hash map) = info_seen s mine u id battle spectators locked map_hash map
  deed_seen (lets_one_in id battle own name asker found) =
      let_into_seen s sound mine u id battle (own_battle s sound me id battle own).0 asker (found_asks name battle asker found)
  deed_seen (turns_away id battle own name reason) =
      hidden_seen s mine u id (without_asker name) (λ room. refl)
      (tell (user name) (reply.JoinBattleFailed (reason_or_default reason) ∷ []) ∷ []) (((λ v. refl), tt), tt)

  clause_seen : {asked : Command} {o : Outcome} → Clause s c me asked o → SeenOutcome s mine u o
  clause_seen (refused why) = refusal_quiet why
  clause_seen nothing_done = tt
  clause_seen (one deed) = (deed_seen deed, tt)
  clause_seen (kicks id battle own name in_it) = (
    told_seen s mine u (tell (user name) (reply.ForceQuitBattle ∷ []) ∷ []) (((λ v. refl), tt), tt),
    (leaves_battle_seen s sound u id battle (own_battle s sound me id battle own).0 name in_it mine, tt),
  )

module _ (s : State) (sound : Sound s) (me : List ℕ) (mine : Bool) (u : List ℕ) where
  -- all commands but those by which one comes or goes
  abbrev Stays : Command → Type 0
  Stays command.Exit = ⊥
  Stays (command.Login name password cpu local_ip lobby authorises) = ⊥
  Stays command = Unit {0}

  pub answer_seen : (c : ℕ) (command : Command) → Stays command → SeenOutcome s mine u (answer s c (Some me) command)
  answer_seen c command.Exit stays = absurd stays
  answer_seen c (command.Login name password cpu local_ip lobby authorises) stays = absurd stays
  answer_seen c (command.MyStatus asked) stays = (status_seen s mine u me (merge user_table (status_in (at_name s.users me)) asked), tt)
  answer_seen c command stays = clause_seen s sound c me mine u (clause_of s c me command refl)
