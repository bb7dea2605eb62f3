-- Worked examples of two battles side by side, computed from the definitions: what is done in one is not done in the other.
use Rattle.std.proofs.Common.{◌≡◌, List, [], ◌∷◌, ◌++◌, refl, true}
use Rattle.std.specs.Prelude.{ℕ, pos, codes, map, replicate, Some}
use Rattle.std.specs.Fmt.{digits}
use Rattle.command_grammar.specs.declared.command.Command.TheVariants as command
use Rattle.lobby_model.specs.declared.event.Event.{Event}
use Rattle.lobby_model.specs.declared.event.Event.TheVariants as event
use Rattle.lobby_model.proofs.Fixture.{anna, bert, cleo, right_word, connect, login, says, says_with, lines, three, gets, each_gets, each, tag, opens, joins, commands_on_user}

abbrev robo : List ℕ
robo = codes "Robo"

-- Anna founds battle 1, Bert battle 2, which Cleo joins
abbrev two_open : List Event
two_open = three ++ (says 1 opens ∷ says 2 opens ∷ [])

abbrev side_by_side : List Event
side_by_side = two_open ++ (says 3 (joins 2) ∷ [])

joined_second : each_gets two_open (says 3 (command.JoinBattle 2 (Some (codes "*")) (Some (codes "pw9"))) ∷ []) ≡ each
    ("JOINEDBATTLE 2 Cleo" ∷ [])
    ("JOINEDBATTLE 2 Cleo pw9" ∷ [])
    ("JOINBATTLE 2 -1" ∷ "JOINEDBATTLE 2 Cleo" ∷ "CLIENTBATTLESTATUS Bert 0 0" ∷ "REQUESTBATTLESTATUS" ∷ [])
unfolding digits
joined_second = refl

-- bots of one name may be in both; members alone hear of statuses, talk, bots, rectangles and tags, and all hear what is shown of a battle
abbrev furnish : List Event
furnish =
    says 1 (command.AddBot robo 2 (pos 3) (codes "KAIK")) ∷ says 3 (command.AddBot robo 0 (pos 0) []) ∷ says 3 (command.UpdateBot robo 4 (pos 5))
    ∷ says 3 (command.AddBot (codes "Rex") 0 (pos 0) []) ∷ says 2 (command.RemoveBot (codes "Rex")) ∷ says 1 (command.AddStartRect 1 0 0 200 60)
    ∷ says 2 (command.AddStartRect 2 5 6 7 8) ∷ says 1 (command.SetScriptTags (tag "a" "1" ∷ [])) ∷ says 2 (command.SetScriptTags (tag "a" "2" ∷ []))
    ∷ says 3 (command.MyBattleStatus 1024 (pos 255)) ∷ says 1 (command.SayBattle (codes "x")) ∷ says 3 (command.SayBattleEx (codes "y"))
    ∷ says 2 (command.UpdateBattleInfo 1 true (pos 7) (codes "Red Comet")) ∷ []

furnished_apart : each_gets side_by_side furnish ≡ each
    ("ADDBOT 1 Robo Anna 2 3 KAIK" ∷ "ADDSTARTRECT 1 0 0 200 60" ∷ "SETSCRIPTTAGS a=1" ∷ "SAIDBATTLE Anna x" ∷ "UPDATEBATTLEINFO 2 1 1 7 Red Comet" ∷ [])
    ("ADDBOT 2 Robo Cleo 0 0 " ∷ "UPDATEBOT 2 Robo 4 5" ∷ "ADDBOT 2 Rex Cleo 0 0 " ∷ "REMOVEBOT 2 Rex" ∷ "ADDSTARTRECT 2 5 6 7 8"
    ∷ "SETSCRIPTTAGS a=2" ∷ "CLIENTBATTLESTATUS Cleo 1024 255" ∷ "SAIDBATTLEEX Cleo y" ∷ "UPDATEBATTLEINFO 2 1 1 7 Red Comet" ∷ [])
    ("ADDBOT 2 Robo Cleo 0 0 " ∷ "UPDATEBOT 2 Robo 4 5" ∷ "ADDBOT 2 Rex Cleo 0 0 " ∷ "REMOVEBOT 2 Rex" ∷ "ADDSTARTRECT 2 5 6 7 8"
    ∷ "SETSCRIPTTAGS a=2" ∷ "CLIENTBATTLESTATUS Cleo 1024 255" ∷ "SAIDBATTLEEX Cleo y" ∷ "UPDATEBATTLEINFO 2 1 1 7 Red Comet" ∷ [])
unfolding digits
furnished_apart = refl

-- A member of another battle is no member. One who changes battles takes nothing along, and the other is as its own members left it
no_member_here : each_gets side_by_side (map (says 1) (commands_on_user bert ++ commands_on_user cleo) ++ map (says_with (Some 4) 2) (commands_on_user anna)) ≡ each
    (replicate 14 "SERVERMSG No such member")
    (replicate 7 "#4 SERVERMSG No such member")
    []
unfolding digits
no_member_here = refl

changes_battle : each_gets (side_by_side ++ furnish) (says 3 command.LeaveBattle ∷ says_with (Some 7) 3 (joins 1) ∷ []) ≡ each
    ("LEFTBATTLE 2 Cleo" ∷ "JOINEDBATTLE 1 Cleo" ∷ [])
    ("REMOVEBOT 2 Robo" ∷ "LEFTBATTLE 2 Cleo" ∷ "JOINEDBATTLE 1 Cleo" ∷ [])
    ("REMOVEBOT 2 Robo" ∷ "LEFTBATTLE 2 Cleo" ∷ "#7 JOINBATTLE 1 -1" ∷ "#7 JOINEDBATTLE 1 Cleo" ∷ "#7 CLIENTBATTLESTATUS Anna 0 0"
    ∷ "#7 ADDBOT 1 Robo Anna 2 3 KAIK" ∷ "#7 ADDSTARTRECT 1 0 0 200 60" ∷ "#7 SETSCRIPTTAGS a=1" ∷ "#7 REQUESTBATTLESTATUS" ∷ [])
unfolding digits
changes_battle = refl

-- where one is closed the other goes on
closes_second : each_gets side_by_side (says 2 command.LeaveBattle ∷ says 3 (command.SayBattle (codes "x")) ∷ says 1 (command.SayBattle (codes "x")) ∷ []) ≡ each
    ("BATTLECLOSED 2" ∷ "SAIDBATTLE Anna x" ∷ [])
    ("BATTLECLOSED 2" ∷ [])
    ("BATTLECLOSED 2" ∷ "SERVERMSG You are not in a battle" ∷ [])
unfolding digits
closes_second = refl

founder_of_first_goes : each_gets side_by_side (event.Shut 1 ∷ says 3 (command.SayBattle (codes "x")) ∷ []) ≡ each
    []
    ("BATTLECLOSED 1" ∷ "REMOVEUSER Anna" ∷ "SAIDBATTLE Cleo x" ∷ [])
    ("BATTLECLOSED 1" ∷ "REMOVEUSER Anna" ∷ "SAIDBATTLE Cleo x" ∷ [])
unfolding digits
founder_of_first_goes = refl

-- a battle that was opened behind one that is closed, to one who logs in
abbrev opened_again : List Event
opened_again =
    connect 1 ∷ connect 2 ∷ connect 3 ∷ says 1 (login anna right_word (pos 0)) ∷ says 3 (login cleo right_word (pos 0)) ∷ says 3 opens
    ∷ says 3 command.LeaveBattle ∷ says 3 opens ∷ says 1 (joins 2) ∷ []

second_seen_at_login : gets opened_again (says 2 (login bert right_word (pos 0)) ∷ []) 2 ≡ lines ("ACCEPTED Bert" ∷ "MOTD Welcome"
    ∷ "ADDUSER Anna DE 0 1" ∷ "ADDUSER Bert ?? 0 2" ∷ "ADDUSER Cleo FR 0 3" ∷ "CLIENTSTATUS Bert 12"
    ∷ "BATTLEOPENED 2 0 0 Cleo 10.0.0.3 8452 8 0 0 123 Spring\t104.0\tComet Catcher\tAnna's game\tBA 9.46"
    ∷ "UPDATEBATTLEINFO 2 0 0 123 Comet Catcher" ∷ "JOINEDBATTLE 2 Anna" ∷ "LOGININFOEND" ∷ [])
unfolding digits
second_seen_at_login = refl
