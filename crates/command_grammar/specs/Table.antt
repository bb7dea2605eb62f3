-- The table of commands: of each its word, the kinds of its arguments from left to right, and the command that they
-- make.
use Rattle.std.specs.Prelude.{ℕ, ℤ, Bool, List, [], ◌∷◌, codes, Option}
use Rattle.line_words.specs.declared.lists.Pair.{Pair}
use Rattle.command_grammar.specs.declared.command.Command.{Command}
use Rattle.command_grammar.specs.declared.command.Command.TheVariants as command

pub data Kind : Type 0 where
  Word : Kind
  -- a word or nothing
  OptionalWord : Kind
  Name : Kind
  -- a number from 0 to this one
  Natural : ℕ → Kind
  -- a number from -2147483648 to 4294967295
  Wide : Kind
  -- 0 or 1, for no and yes
  Flag : Kind
  -- the first sentence behind a space, and a further one behind a tab
  Sentence : Kind
  -- the rest of the line
  Text : Kind
  -- the rest of the line or, without a space before it, nothing
  OptionalText : Kind
  -- the user id and the flags of a login: whether the user decides who joins its battles
  LoginFlags : Kind
  -- one or more script tags, parted by tabs
  Pairs : Kind
  -- one or more words, to the end
  Words : Kind

-- any number of 32 bits: a status word
abbrev pub status_word : Kind
status_word = Natural 4294967295

-- a number of 16 bits: a port, a count
abbrev pub small_number : Kind
small_number = Natural 65535

abbrev pub ally_number : Kind
ally_number = Natural 15

-- a side of a start rectangle
abbrev pub side_number : Kind
side_number = Natural 200

-- what an argument of a kind is
abbrev pub Value : Kind → Type 0
Value Word = List ℕ
Value OptionalWord = Option (List ℕ)
Value Name = List ℕ
Value (Natural high) = ℕ
Value Wide = ℤ
Value Flag = Bool
Value Sentence = List ℕ
Value Text = List ℕ
Value OptionalText = Option (List ℕ)
Value LoginFlags = Bool
Value Pairs = List Pair
Value Words = List (List ℕ)

-- the values of a row of kinds
abbrev pub Values : List Kind → Type 0
Values [] = Unit {0}
Values (k ∷ ks) = Value k × Values ks

-- what makes a command of such values
abbrev pub Maker : List Kind → Type 0
Maker [] = Command
Maker (k ∷ ks) = Value k → Maker ks

-- The rows: the kinds of the arguments of a command, from left to right. Commands can share one.

abbrev pub login_row : List Kind
login_row = Word ∷ Word ∷ Wide ∷ Word ∷ Sentence ∷ LoginFlags ∷ []

abbrev pub status_row : List Kind
status_row = status_word ∷ []

abbrev pub join_row : List Kind
join_row = Name ∷ OptionalWord ∷ []

abbrev pub one_name : List Kind
one_name = Name ∷ []

abbrev pub name_and_text : List Kind
name_and_text = Name ∷ Text ∷ []

-- the engine's name and version, the map, the title and the game's name
abbrev pub battle_titles : List Kind
battle_titles = Sentence ∷ Sentence ∷ Sentence ∷ Sentence ∷ Sentence ∷ []

abbrev pub open_battle_row : List Kind
open_battle_row = Natural 1 ∷ Natural 2 ∷ Word ∷ small_number ∷ small_number ∷ Wide ∷ Wide ∷ Wide ∷ battle_titles

abbrev pub join_battle_row : List Kind
join_battle_row = Natural 2147483647 ∷ OptionalWord ∷ OptionalWord ∷ []

abbrev pub deny_row : List Kind
deny_row = Name ∷ OptionalText ∷ []

abbrev pub battle_info_row : List Kind
battle_info_row = small_number ∷ Flag ∷ Wide ∷ Sentence ∷ []

abbrev pub battle_status_row : List Kind
battle_status_row = status_word ∷ Wide ∷ []

abbrev pub one_text : List Kind
one_text = Text ∷ []

abbrev pub add_bot_row : List Kind
add_bot_row = Word ∷ status_word ∷ Wide ∷ Sentence ∷ []

abbrev pub update_bot_row : List Kind
update_bot_row = Word ∷ status_word ∷ Wide ∷ []

abbrev pub one_word : List Kind
one_word = Word ∷ []

abbrev pub add_rectangle_row : List Kind
add_rectangle_row = ally_number ∷ side_number ∷ side_number ∷ side_number ∷ side_number ∷ []

abbrev pub remove_rectangle_row : List Kind
remove_rectangle_row = ally_number ∷ []

abbrev pub some_pairs : List Kind
some_pairs = Pairs ∷ []

abbrev pub some_words : List Kind
some_words = Words ∷ []

-- a name, and a number from 0 to this one
abbrev pub name_and_number : ℕ → List Kind
name_and_number high = Name ∷ Natural high ∷ []

abbrev pub handicap_row : List Kind
handicap_row = name_and_number 100

-- teams are 0 to 15, and so are allies
abbrev pub team_row : List Kind
team_row = name_and_number 15

abbrev pub ally_row : List Kind
ally_row = name_and_number 15

abbrev pub color_row : List Kind
color_row = Name ∷ Wide ∷ []

-- one line of the table
pub record Entry : Type 0 where
  pub word : List ℕ
  pub kinds : List Kind
  pub maker : Maker kinds

abbrev pub entry : List ℕ → (kinds : List Kind) → Maker kinds → Entry
entry word kinds maker = record { word = word; kinds = kinds; maker = maker }

-- The table of commands, its last part first, and each part ends with the one behind it: the code has a function for
-- each.

-- Written by tools/protocol.py of protocol/commands.toml: entries.
-- what a founder does to players
unfoldable pub host_entries : List Entry
host_entries =
    entry (codes "HANDICAP") handicap_row command.Handicap
    ∷ entry (codes "FORCETEAMNO") team_row command.ForceTeamNo
    ∷ entry (codes "FORCEALLYNO") ally_row command.ForceAllyNo
    ∷ entry (codes "FORCETEAMCOLOR") color_row command.ForceTeamColor
    ∷ entry (codes "FORCESPECTATORMODE") one_name command.ForceSpectatorMode
    ∷ entry (codes "KICKFROMBATTLE") one_name command.KickFromBattle
    ∷ entry (codes "RING") one_name command.Ring
    ∷ []

-- bots, start rectangles, script tags and units
unfoldable pub room_entries : List Entry
room_entries =
    entry (codes "ADDBOT") add_bot_row command.AddBot
    ∷ entry (codes "UPDATEBOT") update_bot_row command.UpdateBot
    ∷ entry (codes "REMOVEBOT") one_word command.RemoveBot
    ∷ entry (codes "ADDSTARTRECT") add_rectangle_row command.AddStartRect
    ∷ entry (codes "REMOVESTARTRECT") remove_rectangle_row command.RemoveStartRect
    ∷ entry (codes "SETSCRIPTTAGS") some_pairs command.SetScriptTags
    ∷ entry (codes "REMOVESCRIPTTAGS") some_words command.RemoveScriptTags
    ∷ entry (codes "DISABLEUNITS") some_words command.DisableUnits
    ∷ entry (codes "ENABLEUNITS") some_words command.EnableUnits
    ∷ entry (codes "ENABLEALLUNITS") [] command.EnableAllUnits
    ∷ host_entries

-- battles
unfoldable pub battle_entries : List Entry
battle_entries =
    entry (codes "OPENBATTLE") open_battle_row command.OpenBattle
    ∷ entry (codes "JOINBATTLE") join_battle_row command.JoinBattle
    ∷ entry (codes "JOINBATTLEACCEPT") one_name command.JoinBattleAccept
    ∷ entry (codes "JOINBATTLEDENY") deny_row command.JoinBattleDeny
    ∷ entry (codes "LEAVEBATTLE") [] command.LeaveBattle
    ∷ entry (codes "UPDATEBATTLEINFO") battle_info_row command.UpdateBattleInfo
    ∷ entry (codes "MYBATTLESTATUS") battle_status_row command.MyBattleStatus
    ∷ entry (codes "SAYBATTLE") one_text command.SayBattle
    ∷ entry (codes "SAYBATTLEEX") one_text command.SayBattleEx
    ∷ room_entries

-- users and channels; with all parts behind it, this is the table
unfoldable pub entries : List Entry
entries =
    entry (codes "PING") [] command.Ping
    ∷ entry (codes "EXIT") [] command.Exit
    ∷ entry (codes "LOGIN") login_row command.Login
    ∷ entry (codes "MYSTATUS") status_row command.MyStatus
    ∷ entry (codes "CHANNELS") [] command.Channels
    ∷ entry (codes "JOIN") join_row command.Join
    ∷ entry (codes "LEAVE") one_name command.Leave
    ∷ entry (codes "SAY") name_and_text command.Say
    ∷ entry (codes "SAYEX") name_and_text command.SayEx
    ∷ entry (codes "SAYPRIVATE") name_and_text command.SayPrivate
    ∷ battle_entries

-- End of what is written: entries.

-- the arguments of a command
pub record Arguments : Type 0 where
  pub kinds : List Kind
  pub values : Values kinds

-- a row of kinds, and a value for each
abbrev pub given : (kinds : List Kind) → Values kinds → Arguments
given kinds values = record { kinds = kinds; values = values }

-- Written by tools/protocol.py of protocol/commands.toml: arguments.
abbrev pub arguments_of : Command → Arguments
arguments_of command.Blank = given [] tt
arguments_of (command.Unread fault) = given [] tt
arguments_of command.Ping = given [] tt
arguments_of command.Exit = given [] tt
arguments_of (command.Login user_name password cpu local_ip lobby authorises) = given login_row
    (user_name, (password, (cpu, (local_ip, (lobby, (authorises, tt))))))
arguments_of (command.MyStatus status) = given status_row (status, tt)
arguments_of command.Channels = given [] tt
arguments_of (command.Join channel key) = given join_row (channel, (key, tt))
arguments_of (command.Leave channel) = given one_name (channel, tt)
arguments_of (command.Say channel text) = given name_and_text (channel, (text, tt))
arguments_of (command.SayEx channel text) = given name_and_text (channel, (text, tt))
arguments_of (command.SayPrivate user text) = given name_and_text (user, (text, tt))
arguments_of (command.OpenBattle battle_type nat_type password port max_players game_hash rank map_hash engine_name
    engine_version map title game_name) =
    given open_battle_row (
      battle_type,
      (
        nat_type,
        (
          password,
          (
            port,
            (
              max_players,
              (
                game_hash,
                (rank, (map_hash, (engine_name, (engine_version, (map, (title, (game_name, tt))))))),
              ),
            ),
          ),
        ),
      ),
    )
arguments_of (command.JoinBattle battle password script_password) = given join_battle_row
    (battle, (password, (script_password, tt)))
arguments_of (command.JoinBattleAccept user) = given one_name (user, tt)
arguments_of (command.JoinBattleDeny user reason) = given deny_row (user, (reason, tt))
arguments_of command.LeaveBattle = given [] tt
arguments_of (command.UpdateBattleInfo spectator_count locked map_hash map) = given battle_info_row
    (spectator_count, (locked, (map_hash, (map, tt))))
arguments_of (command.MyBattleStatus battle_status team_color) = given battle_status_row
    (battle_status, (team_color, tt))
arguments_of (command.SayBattle text) = given one_text (text, tt)
arguments_of (command.SayBattleEx text) = given one_text (text, tt)
arguments_of (command.AddBot bot battle_status team_color ai) = given add_bot_row
    (bot, (battle_status, (team_color, (ai, tt))))
arguments_of (command.UpdateBot bot battle_status team_color) = given update_bot_row
    (bot, (battle_status, (team_color, tt)))
arguments_of (command.RemoveBot bot) = given one_word (bot, tt)
arguments_of (command.AddStartRect ally_no left top right bottom) = given add_rectangle_row
    (ally_no, (left, (top, (right, (bottom, tt)))))
arguments_of (command.RemoveStartRect ally_no) = given remove_rectangle_row (ally_no, tt)
arguments_of (command.SetScriptTags pairs) = given some_pairs (pairs, tt)
arguments_of (command.RemoveScriptTags keys) = given some_words (keys, tt)
arguments_of (command.DisableUnits units) = given some_words (units, tt)
arguments_of (command.EnableUnits units) = given some_words (units, tt)
arguments_of command.EnableAllUnits = given [] tt
arguments_of (command.Handicap user value) = given handicap_row (user, (value, tt))
arguments_of (command.ForceTeamNo user number) = given team_row (user, (number, tt))
arguments_of (command.ForceAllyNo user number) = given ally_row (user, (number, tt))
arguments_of (command.ForceTeamColor user team_color) = given color_row (user, (team_color, tt))
arguments_of (command.ForceSpectatorMode user) = given one_name (user, tt)
arguments_of (command.KickFromBattle user) = given one_name (user, tt)
arguments_of (command.Ring user) = given one_name (user, tt)

-- End of what is written: arguments.
