-- Worked examples of a battle's room, computed from the definitions.
use Rattle.std.proofs.Common.{◌≡◌, ℕ, List, [], ◌∷◌, ◌++◌, refl}
use Rattle.std.specs.Prelude.{pos, negsuc, codes, map, replicate, Some}
use Rattle.std.specs.Fmt.{digits}
use Rattle.command_grammar.specs.declared.command.Command.{Command}
use Rattle.command_grammar.specs.declared.command.Command.TheVariants as command
use Rattle.lobby_model.specs.declared.event.Event.{Event}
use Rattle.lobby_model.proofs.Fixture.{anna, bert, cleo, says, says_with, lines, three, gets, each_gets, each, tag, opens, joins, commands_of_members, commands_of_founders, commands_on_user}

abbrev robo : List ℕ
robo = codes "Robo"

abbrev rex : List ℕ
rex = codes "Rex"

abbrev max : List ℕ
max = codes "Max"

-- Anna is the founder of battle 1, alone; with Bert as a member. Cleo is outside
abbrev alone : List Event
alone = three ++ (says 1 opens ∷ [])

abbrev two_in_battle : List Event
two_in_battle = three ++ (says 1 opens ∷ says 2 (joins 1) ∷ [])

-- the checks, in this order: who says it is in no battle, is not the founder, names one who is no member
abbrev all_commands : List Command
all_commands = commands_of_members ++ (commands_of_founders ++ commands_on_user cleo)

in_no_battle : each_gets alone (map (says 2) all_commands ++ map (says_with (Some 4) 3) all_commands) ≡ each
    []
    (replicate 19 "SERVERMSG You are not in a battle")
    (replicate 19 "#4 SERVERMSG You are not in a battle")
unfolding digits
in_no_battle = refl

-- also where it names itself or the founder
abbrev commands_on_all : List Command
commands_on_all = commands_on_user anna ++ (commands_on_user bert ++ commands_on_user cleo)

not_the_founder : each_gets two_in_battle (map (says 2) (commands_of_founders ++ commands_on_all)) ≡ each
    []
    (replicate 26 "SERVERMSG You are not the founder")
    []
unfolding digits
not_the_founder = refl

-- neither Cleo, who is a user, nor Zoe, who is not
no_such_member : each_gets two_in_battle (map (says_with (Some 4) 1) (commands_on_user cleo ++ commands_on_user (codes "Zoe"))) ≡ each
    (replicate 14 "#4 SERVERMSG No such member")
    []
    []
unfolding digits
no_such_member = refl

-- the handicap is the founder's to set, and stays when the member sets the rest
abbrev sets_handicap : List Event
sets_handicap =
    says 1 (command.MyBattleStatus 37749838 (pos 255)) ∷ says 1 (command.Handicap anna 50)
    ∷ says 1 (command.MyBattleStatus 4294967295 (negsuc 0)) ∷ []

handicap_stays : gets alone sets_handicap 1
    ≡ lines ("CLIENTBATTLESTATUS Anna 37749838 255" ∷ "CLIENTBATTLESTATUS Anna 37852238 255" ∷ "CLIENTBATTLESTATUS Anna 264345598 -1" ∷ [])
unfolding digits
handicap_stays = refl

-- The founder forces one number of a member's status, or its colour, and the rest stays. Members are told, also where nothing changed
abbrev forces : List Event
forces =
    says 2 (command.MyBattleStatus 37749838 (pos 0)) ∷ says 1 (command.ForceTeamNo bert 5) ∷ says 1 (command.ForceSpectatorMode bert)
    ∷ says 1 (command.ForceAllyNo bert 2) ∷ says_with (Some 3) 1 (command.ForceTeamColor bert (pos 7)) ∷ says 1 (command.Handicap bert 100)
    ∷ says 1 (command.ForceTeamNo bert 5) ∷ []

forced : each_gets two_in_battle forces ≡ each
    ("CLIENTBATTLESTATUS Bert 37749838 0" ∷ "CLIENTBATTLESTATUS Bert 37749846 0" ∷ "CLIENTBATTLESTATUS Bert 37748822 0"
    ∷ "CLIENTBATTLESTATUS Bert 37748886 0" ∷ "#3 CLIENTBATTLESTATUS Bert 37748886 7" ∷ "CLIENTBATTLESTATUS Bert 37953686 7"
    ∷ "CLIENTBATTLESTATUS Bert 37953686 7" ∷ [])
    ("CLIENTBATTLESTATUS Bert 37749838 0" ∷ "CLIENTBATTLESTATUS Bert 37749846 0" ∷ "CLIENTBATTLESTATUS Bert 37748822 0"
    ∷ "CLIENTBATTLESTATUS Bert 37748886 0" ∷ "CLIENTBATTLESTATUS Bert 37748886 7" ∷ "CLIENTBATTLESTATUS Bert 37953686 7"
    ∷ "CLIENTBATTLESTATUS Bert 37953686 7" ∷ [])
    []
unfolding digits
forced = refl

-- only the one who is rung hears it; the founder may ring itself
rung : each_gets two_in_battle (says_with (Some 4) 1 (command.Ring bert) ∷ says_with (Some 5) 1 (command.Ring anna) ∷ []) ≡ each
    ("#5 RING Anna" ∷ [])
    ("RING Anna" ∷ [])
    []
unfolding digits
rung = refl

-- the founder kicks members, not itself; the one who is kicked is told first, then all that it left
abbrev kicks_in_vain : List Event
kicks_in_vain =
    says 2 (command.KickFromBattle anna) ∷ says_with (Some 6) 1 (command.KickFromBattle anna) ∷ says 1 (command.KickFromBattle cleo) ∷ []

not_kicked : each_gets two_in_battle kicks_in_vain ≡ each
    ("#6 SERVERMSG You cannot kick yourself" ∷ "SERVERMSG No such member" ∷ [])
    ("SERVERMSG You are not the founder" ∷ [])
    []
unfolding digits
not_kicked = refl

abbrev kicks : List Event
kicks = says_with (Some 7) 1 (command.KickFromBattle bert) ∷ says 2 command.LeaveBattle ∷ says 1 (command.Ring bert) ∷ []

kicked : each_gets two_in_battle kicks ≡ each
    ("#7 LEFTBATTLE 1 Bert" ∷ "SERVERMSG No such member" ∷ [])
    ("FORCEQUITBATTLE" ∷ "LEFTBATTLE 1 Bert" ∷ "SERVERMSG You are not in a battle" ∷ [])
    ("LEFTBATTLE 1 Bert" ∷ [])
unfolding digits
kicked = refl

-- a member's bots go with it, in the order in which they were added, whether it leaves or is kicked; others' bots stay
abbrev with_bots : List Event
with_bots =
    two_in_battle ++ (says 2 (command.AddBot robo 0 (pos 0) (codes "KAIK")) ∷ says 1 (command.AddBot max 0 (pos 0) (codes "KAIK"))
    ∷ says 2 (command.AddBot rex 0 (pos 0) []) ∷ [])

bots_go_with_member : each_gets with_bots (says_with (Some 8) 2 command.LeaveBattle ∷ says 3 (joins 1) ∷ []) ≡ each
    ("REMOVEBOT 1 Robo" ∷ "REMOVEBOT 1 Rex" ∷ "LEFTBATTLE 1 Bert" ∷ "JOINEDBATTLE 1 Cleo" ∷ [])
    ("#8 REMOVEBOT 1 Robo" ∷ "#8 REMOVEBOT 1 Rex" ∷ "#8 LEFTBATTLE 1 Bert" ∷ "JOINEDBATTLE 1 Cleo" ∷ [])
    ("LEFTBATTLE 1 Bert" ∷ "JOINBATTLE 1 -1" ∷ "JOINEDBATTLE 1 Cleo" ∷ "CLIENTBATTLESTATUS Anna 0 0" ∷ "ADDBOT 1 Max Anna 0 0 KAIK"
    ∷ "REQUESTBATTLESTATUS" ∷ [])
unfolding digits
bots_go_with_member = refl

bots_go_with_kicked : each_gets with_bots (says 1 (command.KickFromBattle bert) ∷ []) ≡ each
    ("REMOVEBOT 1 Robo" ∷ "REMOVEBOT 1 Rex" ∷ "LEFTBATTLE 1 Bert" ∷ [])
    ("FORCEQUITBATTLE" ∷ "REMOVEBOT 1 Robo" ∷ "REMOVEBOT 1 Rex" ∷ "LEFTBATTLE 1 Bert" ∷ [])
    ("LEFTBATTLE 1 Bert" ∷ [])
unfolding digits
bots_go_with_kicked = refl

-- who joins is told what the members share
abbrev furnished : List Event
furnished =
    alone ++ (says 1 (command.AddBot robo 1024 (pos 255) (codes "KAIK")) ∷ says 1 (command.AddStartRect 1 0 0 200 60)
    ∷ says 1 (command.SetScriptTags (tag "a" "1" ∷ tag "b" "2" ∷ [])) ∷ [])

told_to_joiner : each_gets furnished (says 3 (joins 1) ∷ says_with (Some 2) 3 (command.RemoveBot robo) ∷ []) ≡ each
    ("JOINEDBATTLE 1 Cleo" ∷ [])
    ("JOINEDBATTLE 1 Cleo" ∷ [])
    ("JOINBATTLE 1 -1" ∷ "JOINEDBATTLE 1 Cleo" ∷ "CLIENTBATTLESTATUS Anna 0 0" ∷ "ADDBOT 1 Robo Anna 1024 255 KAIK"
    ∷ "ADDSTARTRECT 1 0 0 200 60" ∷ "SETSCRIPTTAGS a=1" ∷ "SETSCRIPTTAGS b=2" ∷ "REQUESTBATTLESTATUS" ∷ "#2 SERVERMSG That bot is not yours" ∷ [])
unfolding digits
told_to_joiner = refl

-- Bots: any member adds them, each name once in a battle; upper and lower case differ. Unused bits of their status and the handicap are 0
abbrev adds_bots : List Event
adds_bots =
    says_with (Some 3) 2 (command.AddBot robo 4294967295 (negsuc 0) (codes "KAIK 0.13")) ∷ says 1 (command.AddBot robo 0 (pos 0) [])
    ∷ says 2 (command.AddBot robo 0 (pos 0) []) ∷ says 1 (command.AddBot (codes "robo") 0 (pos 0) []) ∷ []

bots_added : each_gets two_in_battle adds_bots ≡ each
    ("ADDBOT 1 Robo Bert 264243198 -1 KAIK 0.13" ∷ "SERVERMSG That bot name is taken" ∷ "ADDBOT 1 robo Anna 0 0 " ∷ [])
    ("#3 ADDBOT 1 Robo Bert 264243198 -1 KAIK 0.13" ∷ "SERVERMSG That bot name is taken" ∷ "ADDBOT 1 robo Anna 0 0 " ∷ [])
    []
unfolding digits
bots_added = refl

-- the one who added a bot changes it and takes it away, and so does the founder
abbrev changes_bots : List Event
changes_bots =
    says 2 (command.UpdateBot rex 4294967295 (negsuc 0)) ∷ says_with (Some 4) 1 (command.UpdateBot robo 2 (pos 3))
    ∷ says_with (Some 5) 2 (command.UpdateBot max 0 (pos 0)) ∷ says 2 (command.RemoveBot max) ∷ says 2 (command.UpdateBot (codes "max") 0 (pos 0))
    ∷ says 3 (joins 1) ∷ []

bots_changed : each_gets with_bots changes_bots ≡ each
    ("UPDATEBOT 1 Rex 264243198 -1" ∷ "#4 UPDATEBOT 1 Robo 2 3" ∷ "JOINEDBATTLE 1 Cleo" ∷ [])
    ("UPDATEBOT 1 Rex 264243198 -1" ∷ "UPDATEBOT 1 Robo 2 3" ∷ "#5 SERVERMSG That bot is not yours" ∷ "SERVERMSG That bot is not yours"
    ∷ "SERVERMSG No such bot" ∷ "JOINEDBATTLE 1 Cleo" ∷ [])
    ("JOINBATTLE 1 -1" ∷ "JOINEDBATTLE 1 Cleo" ∷ "CLIENTBATTLESTATUS Anna 0 0" ∷ "CLIENTBATTLESTATUS Bert 0 0" ∷ "ADDBOT 1 Robo Bert 2 3 KAIK"
    ∷ "ADDBOT 1 Max Anna 0 0 KAIK" ∷ "ADDBOT 1 Rex Bert 264243198 -1 " ∷ "REQUESTBATTLESTATUS" ∷ [])
unfolding digits
bots_changed = refl

abbrev removes_bots : List Event
removes_bots =
    says_with (Some 6) 2 (command.RemoveBot robo) ∷ says 1 (command.RemoveBot rex) ∷ says 1 (command.RemoveBot robo)
    ∷ says 1 (command.UpdateBot rex 0 (pos 0)) ∷ says 3 (joins 1) ∷ []

bots_removed : each_gets with_bots removes_bots ≡ each
    ("REMOVEBOT 1 Robo" ∷ "REMOVEBOT 1 Rex" ∷ "SERVERMSG No such bot" ∷ "SERVERMSG No such bot" ∷ "JOINEDBATTLE 1 Cleo" ∷ [])
    ("#6 REMOVEBOT 1 Robo" ∷ "REMOVEBOT 1 Rex" ∷ "JOINEDBATTLE 1 Cleo" ∷ [])
    ("JOINBATTLE 1 -1" ∷ "JOINEDBATTLE 1 Cleo" ∷ "CLIENTBATTLESTATUS Anna 0 0" ∷ "CLIENTBATTLESTATUS Bert 0 0" ∷ "ADDBOT 1 Max Anna 0 0 KAIK"
    ∷ "REQUESTBATTLESTATUS" ∷ [])
unfolding digits
bots_removed = refl

-- rectangles: an earlier one of that ally team is replaced; one that is not there is removed all the same; a joiner gets them by ally team
abbrev furnished_for_two : List Event
furnished_for_two = furnished ++ (says 2 (joins 1) ∷ [])

abbrev changes_rects : List Event
changes_rects =
    says 1 (command.AddStartRect 1 5 6 10 11) ∷ says_with (Some 7) 1 (command.AddStartRect 0 1 2 3 4) ∷ says 1 (command.AddStartRect 15 0 0 0 0)
    ∷ says 1 (command.RemoveStartRect 9) ∷ says_with (Some 8) 1 (command.RemoveStartRect 15) ∷ says 3 (joins 1) ∷ []

rects_changed : each_gets furnished_for_two changes_rects ≡ each
    ("ADDSTARTRECT 1 5 6 10 11" ∷ "#7 ADDSTARTRECT 0 1 2 3 4" ∷ "ADDSTARTRECT 15 0 0 0 0" ∷ "REMOVESTARTRECT 9" ∷ "#8 REMOVESTARTRECT 15"
    ∷ "JOINEDBATTLE 1 Cleo" ∷ [])
    ("ADDSTARTRECT 1 5 6 10 11" ∷ "ADDSTARTRECT 0 1 2 3 4" ∷ "ADDSTARTRECT 15 0 0 0 0" ∷ "REMOVESTARTRECT 9" ∷ "REMOVESTARTRECT 15"
    ∷ "JOINEDBATTLE 1 Cleo" ∷ [])
    ("JOINBATTLE 1 -1" ∷ "JOINEDBATTLE 1 Cleo" ∷ "CLIENTBATTLESTATUS Anna 0 0" ∷ "CLIENTBATTLESTATUS Bert 0 0" ∷ "ADDBOT 1 Robo Anna 1024 255 KAIK"
    ∷ "ADDSTARTRECT 0 1 2 3 4" ∷ "ADDSTARTRECT 1 5 6 10 11" ∷ "SETSCRIPTTAGS a=1" ∷ "SETSCRIPTTAGS b=2" ∷ "REQUESTBATTLESTATUS" ∷ [])
unfolding digits
rects_changed = refl

-- tags: members get the pairs as they were read; a later pair of one key wins, and a key that was there keeps its place
abbrev sets_tags : List Event
sets_tags = says_with (Some 9) 1 (command.SetScriptTags (tag "c" "3" ∷ tag "a" "4" ∷ tag "c" "x=y" ∷ [])) ∷ says 3 (joins 1) ∷ []

tags_set : each_gets furnished_for_two sets_tags ≡ each
    ("#9 SETSCRIPTTAGS c=3\ta=4\tc=x=y" ∷ "JOINEDBATTLE 1 Cleo" ∷ [])
    ("SETSCRIPTTAGS c=3\ta=4\tc=x=y" ∷ "JOINEDBATTLE 1 Cleo" ∷ [])
    ("JOINBATTLE 1 -1" ∷ "JOINEDBATTLE 1 Cleo" ∷ "CLIENTBATTLESTATUS Anna 0 0" ∷ "CLIENTBATTLESTATUS Bert 0 0" ∷ "ADDBOT 1 Robo Anna 1024 255 KAIK"
    ∷ "ADDSTARTRECT 1 0 0 200 60" ∷ "SETSCRIPTTAGS a=4" ∷ "SETSCRIPTTAGS b=2" ∷ "SETSCRIPTTAGS c=x=y" ∷ "REQUESTBATTLESTATUS" ∷ [])
unfolding digits
tags_set = refl

-- keys that were there are told, each once, in the order of the command; where none was there is no line
abbrev removes_tags : List Event
removes_tags =
    says 1 (command.SetScriptTags (tag "c" "" ∷ [])) ∷ says 1 (command.RemoveScriptTags (codes "zz" ∷ []))
    ∷ says_with (Some 9) 1 (command.RemoveScriptTags (codes "c" ∷ codes "zz" ∷ codes "a" ∷ codes "c" ∷ []))
    ∷ says 1 (command.RemoveScriptTags (codes "a" ∷ [])) ∷ says 3 (joins 1) ∷ []

tags_removed : each_gets furnished_for_two removes_tags ≡ each
    ("SETSCRIPTTAGS c=" ∷ "#9 REMOVESCRIPTTAGS c a" ∷ "JOINEDBATTLE 1 Cleo" ∷ [])
    ("SETSCRIPTTAGS c=" ∷ "REMOVESCRIPTTAGS c a" ∷ "JOINEDBATTLE 1 Cleo" ∷ [])
    ("JOINBATTLE 1 -1" ∷ "JOINEDBATTLE 1 Cleo" ∷ "CLIENTBATTLESTATUS Anna 0 0" ∷ "CLIENTBATTLESTATUS Bert 0 0" ∷ "ADDBOT 1 Robo Anna 1024 255 KAIK"
    ∷ "ADDSTARTRECT 1 0 0 200 60" ∷ "SETSCRIPTTAGS b=2" ∷ "REQUESTBATTLESTATUS" ∷ [])
unfolding digits
tags_removed = refl
