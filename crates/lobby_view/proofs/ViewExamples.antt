-- Worked examples of the view, computed from the lines that a client is sent. Many of them no server sends in that place.
use Rattle.std.proofs.Common.{◌≡◌, ℕ, List, [], ◌∷◌, ◌++◌, refl, Bool, true, false}
use Rattle.std.specs.Prelude.{codes, pos, Option, Some, None, map}
use Rattle.std.specs.Fmt.{digits}
use Prim.Native.String.{String}
use Rattle.line_words.specs.Table.{ByNumber}
use Rattle.room_lists.specs.Room.{Room, Member, Bot}
use Rattle.reply_fields.specs.Fields.{piece_at, natural, whole, number_in, number_at, wide_at, flag_at, word_at, words_at, name_at, names_at, optional_at, sentence_at, text_at, pair_in, pairs_at, many}
use Rattle.reply_grammar.specs.Reading.{shaped}
use Rattle.reply_grammar.specs.Lines.{named, read_body, read_numbered, read_line}
use Rattle.command_grammar.specs.declared.command.Command.TheVariants as command
use Rattle.lobby_model.specs.declared.event.Event.{Event}
use Rattle.lobby_model.proofs.Fixture as fixture
use Rattle.lobby_model.proofs.Fixture.{anna, bert, cleo, main, lines, tag, says, three, opens, gets}
use Rattle.lobby_view.specs.View.{View, Known, Listed, OwnRoom, new_view}
use Rattle.lobby_view.specs.Bytes.{view}

-- what is known after some lines, and of some part after these and each of some more
abbrev knows : List String → View
knows texts = view (lines texts)

abbrev after_each : {A : Type 0} → (View → A) → List String → List (List String) → List A
after_each part before mores = map (λ more. part (view (lines before ++ lines more))) mores

-- users
abbrev user : String → ℕ → ℕ → Known
user country account status = record { country = codes country; cpu = pos 0; account = account; status = status }

abbrev users_come : List String
users_come = "ACCEPTED Anna" ∷ "MOTD Welcome" ∷ "ADDUSER Anna DE 0 1" ∷ "ADDUSER Bert ?? 0 2" ∷ "CLIENTSTATUS Bert 12" ∷ "LOGININFOEND" ∷ []

-- an id is put aside; a status of a user who is not there changes nothing, nor does one who goes; a user who is there comes anew
users_known : after_each (λ v. v.users) users_come (
    []
    ∷ ("#7 CLIENTSTATUS Anna 1" ∷ "REMOVEUSER Cleo" ∷ "CLIENTSTATUS Cleo 1" ∷ "REMOVEUSER Bert" ∷ [])
    ∷ ("ADDUSER Bert FR 0 9" ∷ []) ∷ [])
    ≡ ((anna, user "DE" 1 0) ∷ (bert, user "??" 2 12) ∷ [])
    ∷ ((anna, user "DE" 1 1) ∷ [])
    ∷ ((anna, user "DE" 1 0) ∷ (bert, user "FR" 9 0) ∷ []) ∷ []
unfolding digits piece_at natural whole number_in number_at wide_at flag_at word_at words_at name_at names_at optional_at sentence_at text_at
    pair_in pairs_at many shaped named read_body read_numbered read_line
users_known = refl

-- channels: names come in several lines
abbrev in_main : List String
in_main = users_come ++ ("JOIN main" ∷ "CLIENTS main Bert" ∷ "CLIENTS main Cleo Anna" ∷ [])

-- others come and go, and lines of a channel that is not one's own change nothing; one leaves oneself; one joins anew
channels_known : after_each (λ v. v.channels) in_main (
    []
    ∷ ("JOINED main Dora" ∷ "LEFT main Bert" ∷ "LEFT big Anna" ∷ "LEFT big Cleo" ∷ "CLIENTS big Bert" ∷ "JOINED big Bert" ∷ [])
    ∷ ("LEFT main Anna" ∷ []) ∷ ("JOIN main" ∷ []) ∷ [])
    ≡ ((main, bert ∷ cleo ∷ anna ∷ []) ∷ [])
    ∷ ((main, cleo ∷ anna ∷ codes "Dora" ∷ []) ∷ [])
    ∷ [] ∷ ((main, []) ∷ []) ∷ []
unfolding digits piece_at natural whole number_in number_at wide_at flag_at word_at words_at name_at names_at optional_at sentence_at text_at
    pair_in pairs_at many shaped named read_body read_numbered read_line
channels_known = refl

-- battles
abbrev annas : ℕ → Bool → ℕ → String → List (List ℕ) → ByNumber Listed
annas spectators locked hash map_name members = (
  1,
  record {
    info = record {
      battle_type = 0;
      nat_type = 0;
      founder = anna;
      ip = codes "10.0.0.1";
      port = 8452;
      max_players = 8;
      passworded = false;
      rank = pos 0;
      map_hash = pos hash;
      engine_name = codes "Spring";
      engine_version = codes "104.0";
      map = codes map_name;
      title = codes "Anna's game";
      game_name = codes "BA 9.46";
      spectators = spectators;
      locked = locked;
    };
    members = members;
  },
) ∷ []

abbrev opened : String
opened = "BATTLEOPENED 1 0 0 Anna 10.0.0.1 8452 8 0 0 123 Spring\t104.0\tComet Catcher\tAnna's game\tBA 9.46"

abbrev battle_opens : List String
battle_opens = users_come ++ (opened ∷ [])

abbrev battle_changes : List String
battle_changes =
    "UPDATEBATTLEINFO 1 3 1 77 Red River" ∷ "JOINEDBATTLE 1 Bert" ∷ "JOINEDBATTLE 1 Cleo word" ∷ "LEFTBATTLE 1 Bert"
    ∷ "BATTLECLOSED 2" ∷ "LEFTBATTLE 2 Anna" ∷ "UPDATEBATTLEINFO 2 5 1 78 Other" ∷ "JOINEDBATTLE 2 Bert" ∷ []

-- it has its founder; its four values change, others come and go, and lines of a battle that is not there change nothing; it opens anew; it closes
battles_known : after_each (λ v. v.battles) battle_opens ([] ∷ battle_changes ∷ (battle_changes ++ (opened ∷ [])) ∷ ("BATTLECLOSED 1" ∷ []) ∷ [])
    ≡ annas 0 false 123 "Comet Catcher" (anna ∷ [])
    ∷ annas 3 true 77 "Red River" (anna ∷ cleo ∷ [])
    ∷ annas 0 false 123 "Comet Catcher" (anna ∷ [])
    ∷ [] ∷ []
unfolding digits piece_at natural whole number_in number_at wide_at flag_at word_at words_at name_at names_at optional_at sentence_at text_at
    pair_in pairs_at many shaped named read_body read_numbered read_line
battles_known = refl

-- the own room
abbrev member : List ℕ → ℕ → ℕ → Member
member name status colour = record { name = name; status = status; colour = pos colour }

abbrev robo : ℕ → ℕ → Bot
robo status colour = record { name = codes "Robo"; owner = bert; status = status; colour = pos colour; ai = codes "KAIK" }

abbrev own : ℕ → Room → Option OwnRoom
own id room = Some (record { battle = id; room = room })

abbrev members_alone : List Member → Room
members_alone members = record { members = members; bots = []; rects = []; tags = []; units = []; askers = [] }

abbrev joins : List String
joins = battle_opens ++ ("JOINEDBATTLE 1 Bert" ∷ "JOINBATTLE 1 5" ∷ "JOINEDBATTLE 1 Cleo" ∷ "CLIENTBATTLESTATUS Anna 1024 7" ∷ [])

-- Anna and two who joined, and these units
abbrev with_units : List (List ℕ) → Room
with_units units = record (members_alone (member anna 1024 7 ∷ member bert 0 0 ∷ member cleo 0 0 ∷ [])) { units = units }

-- pairs and units go from left to right, and what is there keeps its place
abbrev room_changes : List String
room_changes =
    "ADDBOT 1 Robo Bert 4 5 KAIK" ∷ "UPDATEBOT 1 Robo 6 7" ∷ "ADDBOT 1 Droid Cleo 0 0 RAI" ∷ "REMOVEBOT 1 Droid"
    ∷ "ADDSTARTRECT 2 0 0 200 60" ∷ "ADDSTARTRECT 1 0 140 200 200" ∷ "REMOVESTARTRECT 2"
    ∷ "SETSCRIPTTAGS a=1\tb=2\ta=3" ∷ "SETSCRIPTTAGS c=4\tb=5" ∷ "REMOVESCRIPTTAGS c d"
    ∷ "DISABLEUNITS armcom corcom armcom" ∷ "DISABLEUNITS corcom armflash" ∷ "ENABLEUNITS armcom armpw" ∷ []

abbrev changed : List Member → Room
changed members = record {
  members = members;
  bots = robo 6 7 ∷ [];
  rects = (1, record { left = 0; top = 140; right = 200; bottom = 200 }) ∷ [];
  tags = tag "a" "3" ∷ tag "b" "5" ∷ [];
  units = codes "corcom" ∷ codes "armflash" ∷ [];
  askers = [];
}

-- one who leaves takes its status along and leaves its bots, for which lines of their own come
abbrev others_go : List String
others_go =
    "LEFTBATTLE 1 Bert" ∷ "JOINEDBATTLE 2 Dora" ∷ "LEFTBATTLE 2 Cleo" ∷ "LEFTBATTLE 2 Anna" ∷ "ADDBOT 2 Droid Cleo 0 0 RAI"
    ∷ "UPDATEBOT 2 Robo 1 1" ∷ "REMOVEBOT 2 Robo" ∷ "UPDATEBOT 1 Droid 1 1" ∷ "CLIENTBATTLESTATUS Dora 1 1" ∷ "BATTLECLOSED 2" ∷ "FORCEQUITBATTLE" ∷ []

-- status and colour are 0 until they are told; bots, rectangles, tags and units come; others go, and lines of another battle, of a bot or of a
-- member that is not there change nothing
room_known : after_each (λ v. v.own) joins ([] ∷ room_changes ∷ (room_changes ++ others_go) ∷ [])
    ≡ own 1 (members_alone (member anna 1024 7 ∷ member bert 0 0 ∷ member cleo 0 0 ∷ []))
    ∷ own 1 (changed (member anna 1024 7 ∷ member bert 0 0 ∷ member cleo 0 0 ∷ []))
    ∷ own 1 (changed (member anna 1024 7 ∷ member cleo 0 0 ∷ [])) ∷ []
unfolding digits piece_at natural whole number_in number_at wide_at flag_at word_at words_at name_at names_at optional_at sentence_at text_at
    pair_in pairs_at many shaped named read_body read_numbered read_line
room_known = refl

-- one who joins is told of each unit that is disabled, and then of all changes
abbrev units_told : List String
units_told = "DISABLEUNITS corcom" ∷ "DISABLEUNITS armflash" ∷ "REQUESTBATTLESTATUS" ∷ []

units_known : after_each (λ v. v.own) joins (units_told ∷ (units_told ++ ("ENABLEUNITS corcom" ∷ [])) ∷ (units_told ++ ("ENABLEALLUNITS" ∷ [])) ∷ [])
    ≡ own 1 (with_units (codes "corcom" ∷ codes "armflash" ∷ [])) ∷ own 1 (with_units (codes "armflash" ∷ [])) ∷ own 1 (with_units []) ∷ []
unfolding digits piece_at natural whole number_in number_at wide_at flag_at word_at words_at name_at names_at optional_at sentence_at text_at
    pair_in pairs_at many shaped named read_body read_numbered read_line
units_known = refl

-- the same from the bytes that the lobby puts to Bert
abbrev bert_joins : List Event
bert_joins =
    three ++ (says 1 opens ∷ says 1 (command.DisableUnits (codes "armcom" ∷ codes "corcom" ∷ codes "armcom" ∷ []))
    ∷ says 1 (command.DisableUnits (codes "armflash" ∷ [])) ∷ says 1 (command.EnableUnits (codes "armcom" ∷ [])) ∷ says 2 (fixture.joins 1) ∷ [])

joiner_knows : (view (gets [] bert_joins 2)).own ≡ own 1 (record (members_alone (member anna 0 0 ∷ member bert 0 0 ∷ [])) {
  units = codes "corcom" ∷ codes "armflash" ∷ [];
})
unfolding digits piece_at natural whole number_in number_at wide_at flag_at word_at words_at name_at names_at optional_at sentence_at text_at
    pair_in pairs_at many shaped named read_body read_numbered read_line
joiner_knows = refl

-- one leaves, or the battle closes: lines of a room change nothing then
room_gone : after_each (λ v. v.own) joins (("LEFTBATTLE 1 Anna" ∷ room_changes) ∷ ("BATTLECLOSED 1" ∷ room_changes) ∷ []) ≡ None ∷ None ∷ []
unfolding digits piece_at natural whole number_in number_at wide_at flag_at word_at words_at name_at names_at optional_at sentence_at text_at
    pair_in pairs_at many shaped named read_body read_numbered read_line
room_gone = refl

-- a battle that is entered again begins anew, and one that is not known has nobody in it
room_anew : after_each (λ v. v.own) (joins ++ room_changes) (("JOINBATTLE 1 5" ∷ []) ∷ ("OPENBATTLE 1" ∷ []) ∷ ("OPENBATTLE 2" ∷ []) ∷ [])
    ≡ own 1 (members_alone (member anna 0 0 ∷ member bert 0 0 ∷ member cleo 0 0 ∷ []))
    ∷ own 1 (members_alone (member anna 0 0 ∷ member bert 0 0 ∷ member cleo 0 0 ∷ []))
    ∷ own 2 (members_alone []) ∷ []
unfolding digits piece_at natural whole number_in number_at wide_at flag_at word_at words_at name_at names_at optional_at sentence_at text_at
    pair_in pairs_at many shaped named read_body read_numbered read_line
room_anew = refl

-- lines that no reply prints
abbrev no_lines : List String
no_lines = "NEWS today" ∷ "ADDUSER Cleo FR 0" ∷ "removeuser Bert" ∷ "" ∷ "#x REMOVEUSER Bert" ∷ " REMOVEUSER Bert" ∷ []

-- what is said, asked or refused
abbrev talk : List String
talk =
    "SERVERMSG hi" ∷ "DENIED no" ∷ "PONG" ∷ "SAID main Bert hi" ∷ "SAIDEX main Bert waves" ∷ "SAYPRIVATE Bert hi" ∷ "SAIDPRIVATE Bert hi"
    ∷ "CHANNEL big 4" ∷ "ENDOFCHANNELS" ∷ "JOINFAILED big no" ∷ "OPENBATTLEFAILED no" ∷ "JOINBATTLEFAILED no" ∷ "REQUESTBATTLESTATUS"
    ∷ "SAIDBATTLE Bert hi" ∷ "SAIDBATTLEEX Bert waves" ∷ "RING Bert" ∷ "JOINBATTLEREQUEST Bert 10.0.0.2" ∷ "TASSERVER 0.38 * 8201 0" ∷ []

-- both change nothing, and a login starts all anew
all_known : after_each (λ v. v) joins (no_lines ∷ talk ∷ ("ACCEPTED Bert" ∷ []) ∷ []) ≡ knows joins ∷ knows joins ∷ new_view bert ∷ []
unfolding digits piece_at natural whole number_in number_at wide_at flag_at word_at words_at name_at names_at optional_at sentence_at text_at
    pair_in pairs_at many shaped named read_body read_numbered read_line
all_known = refl

-- what has no LF yet is no line
unfinished : view (lines users_come ++ codes "REMOVEUSER Bert") ≡ knows users_come
unfolding digits piece_at natural whole number_in number_at wide_at flag_at word_at words_at name_at names_at optional_at sentence_at text_at
    pair_in pairs_at many shaped named read_body read_numbered read_line
unfinished = refl
