-- Worked examples of battles, computed from the definitions.
use Rattle.std.proofs.Common.{◌≡◌, ℕ, List, [], ◌∷◌, ◌++◌, refl, false, true}
use Rattle.std.specs.Prelude.{pos, negsuc, codes, Some, None}
use Prim.Native.String.{String}
use Rattle.std.specs.Fmt.{digits}
use Rattle.command_grammar.specs.declared.command.Command.TheVariants as command
use Rattle.lobby_model.specs.declared.event.Event.{Event}
use Rattle.lobby_model.specs.declared.event.Event.TheVariants as event
use Rattle.line_words.specs.Table.{ByName, map_values}
use Rattle.lobby_model.specs.State.{State}
use Rattle.lobby_model.specs.Events.{sent}
use Rattle.lobby_model.specs.History.{after, put_in}
use Rattle.lobby_model.proofs.Fixture.{start, anna, bert, cleo, main, right_word, connect, login, says, says_with, lines, three, gets, each_gets, each, opens, opens_with, joins}

-- Anna's battle and Bert's second one, without a password, as all are told of them
abbrev opened : String
opened = "BATTLEOPENED 1 0 0 Anna 10.0.0.1 8452 8 0 0 123 Spring\t104.0\tComet Catcher\tAnna's game\tBA 9.46"

abbrev opened_by_bert : String
opened_by_bert = "BATTLEOPENED 2 0 0 Bert 10.0.0.2 8452 8 0 0 123 Spring\t104.0\tComet Catcher\tAnna's game\tBA 9.46"

-- all are told of a battle; its founder and who joins it are asked for their status, and the founder alone is told the script password
abbrev open_and_join : List Event
open_and_join = says 1 opens ∷ says 2 (command.JoinBattle 1 (Some (codes "*")) (Some (codes "pw9"))) ∷ []

opened_and_joined : each_gets three open_and_join ≡ each
    (opened ∷ "OPENBATTLE 1" ∷ "REQUESTBATTLESTATUS" ∷ "JOINEDBATTLE 1 Bert pw9" ∷ [])
    (opened ∷ "JOINBATTLE 1 -1" ∷ "JOINEDBATTLE 1 Bert" ∷ "CLIENTBATTLESTATUS Anna 0 0" ∷ "REQUESTBATTLESTATUS" ∷ [])
    (opened ∷ "JOINEDBATTLE 1 Bert" ∷ [])
unfolding digits
opened_and_joined = refl

-- each argument stands in its place; the password and the game's hash are not shown. Ids stand on the lines of their issuers
abbrev opens_for_some : List Event
opens_for_some =
    says_with (Some 6) 2 (command.OpenBattle 1 2 (codes "sesam") 65535 16 (pos 4294967295) (pos 7) (negsuc 99) (codes "a b") (codes "c") []
    (codes "d") (codes "e")) ∷ []

arguments_in_their_places : each_gets three opens_for_some ≡ each
    ("BATTLEOPENED 1 1 2 Bert 10.0.0.2 65535 16 1 7 -100 a b\tc\t\td\te" ∷ [])
    ("#6 BATTLEOPENED 1 1 2 Bert 10.0.0.2 65535 16 1 7 -100 a b\tc\t\td\te" ∷ "#6 OPENBATTLE 1" ∷ "#6 REQUESTBATTLESTATUS" ∷ [])
    ("BATTLEOPENED 1 1 2 Bert 10.0.0.2 65535 16 1 7 -100 a b\tc\t\td\te" ∷ [])
unfolding digits
arguments_in_their_places = refl

joined_with_password : each_gets (three ++ opens_for_some) (says_with (Some 4) 1 (command.JoinBattle 1 (Some (codes "sesam")) None) ∷ []) ≡ each
    ("#4 JOINBATTLE 1 4294967295" ∷ "#4 JOINEDBATTLE 1 Anna" ∷ "#4 CLIENTBATTLESTATUS Bert 0 0" ∷ "#4 REQUESTBATTLESTATUS" ∷ [])
    ("JOINEDBATTLE 1 Anna" ∷ [])
    ("JOINEDBATTLE 1 Anna" ∷ [])
unfolding digits
joined_with_password = refl

-- Anna is the founder of battle 1, Bert a member, Cleo outside
abbrev two_in_battle : List Event
two_in_battle = three ++ (says 1 opens ∷ says 2 (joins 1) ∷ [])

-- A joiner is told each member's status of now, in order of joining; a script password is for the founder, not for members. Where a battle
-- has no password any is right
abbrev cleo_joins : List Event
cleo_joins = says 2 (command.MyBattleStatus 1026 (pos 255)) ∷ says 3 (command.JoinBattle 1 (Some (codes "any")) (Some (codes "pw"))) ∷ []

joined_by_a_third : each_gets two_in_battle cleo_joins ≡ each
    ("CLIENTBATTLESTATUS Bert 1026 255" ∷ "JOINEDBATTLE 1 Cleo pw" ∷ [])
    ("CLIENTBATTLESTATUS Bert 1026 255" ∷ "JOINEDBATTLE 1 Cleo" ∷ [])
    ("JOINBATTLE 1 -1" ∷ "JOINEDBATTLE 1 Cleo" ∷ "CLIENTBATTLESTATUS Anna 0 0" ∷ "CLIENTBATTLESTATUS Bert 1026 255" ∷ "REQUESTBATTLESTATUS" ∷ [])
unfolding digits
joined_by_a_third = refl

-- who logs in later is told of each battle, by number, with the values of now, and of its members but the founder, without a script password
abbrev two_log_in : List Event
two_log_in = connect 1 ∷ connect 2 ∷ connect 3 ∷ says 1 (login anna right_word (pos 0)) ∷ says 2 (login bert right_word (pos 0)) ∷ []

abbrev changed : List Event
changed = two_log_in ++ (open_and_join ++ (says 1 (command.UpdateBattleInfo 3 true (negsuc 6) (codes "Red Comet")) ∷ []))

seen_at_login : gets changed (says_with (Some 5) 3 (login cleo right_word (pos 0)) ∷ []) 3 ≡ lines ("#5 ACCEPTED Cleo" ∷ "#5 MOTD Welcome"
    ∷ "#5 ADDUSER Anna DE 0 1" ∷ "#5 ADDUSER Bert ?? 0 2" ∷ "#5 ADDUSER Cleo FR 0 3" ∷ "#5 CLIENTSTATUS Bert 12"
    ∷ "#5 BATTLEOPENED 1 0 0 Anna 10.0.0.1 8452 8 0 0 -7 Spring\t104.0\tRed Comet\tAnna's game\tBA 9.46"
    ∷ "#5 UPDATEBATTLEINFO 1 3 1 -7 Red Comet" ∷ "#5 JOINEDBATTLE 1 Bert" ∷ "#5 LOGININFOEND" ∷ [])
unfolding digits
seen_at_login = refl

abbrev two_battles : List Event
two_battles = two_log_in ++ (says 1 (opens_with (codes "sesam")) ∷ says 2 opens ∷ [])

two_seen_at_login : gets two_battles (says 3 (login cleo right_word (pos 0)) ∷ []) 3 ≡ lines ("ACCEPTED Cleo" ∷ "MOTD Welcome"
    ∷ "ADDUSER Anna DE 0 1" ∷ "ADDUSER Bert ?? 0 2" ∷ "ADDUSER Cleo FR 0 3" ∷ "CLIENTSTATUS Bert 12"
    ∷ "BATTLEOPENED 1 0 0 Anna 10.0.0.1 8452 8 1 0 123 Spring\t104.0\tComet Catcher\tAnna's game\tBA 9.46"
    ∷ "UPDATEBATTLEINFO 1 0 0 123 Comet Catcher" ∷ opened_by_bert ∷ "UPDATEBATTLEINFO 2 0 0 123 Comet Catcher" ∷ "LOGININFOEND" ∷ [])
unfolding digits
two_seen_at_login = refl

-- the refusals of joining, in the order of their checks: already in a battle, no battle of that number, locked, wrong password
abbrev with_password : List Event
with_password = three ++ (says 1 (opens_with (codes "sesam")) ∷ [])

abbrev tries_to_join : List Event
tries_to_join =
    says 2 (command.JoinBattle 9 (Some (codes "x")) None) ∷ says 2 (command.JoinBattle 1 (Some (codes "x")) None)
    ∷ says 1 (command.UpdateBattleInfo 0 true (pos 123) (codes "Comet Catcher")) ∷ says 2 (command.JoinBattle 1 (Some (codes "x")) None)
    ∷ says_with (Some 2) 2 (command.JoinBattle 1 (Some (codes "sesam")) None) ∷ says 1 (joins 9) ∷ says 1 (joins 1) ∷ []

not_joined : each_gets with_password tries_to_join ≡ each
    ("UPDATEBATTLEINFO 1 0 1 123 Comet Catcher" ∷ "JOINBATTLEFAILED Already in a battle" ∷ "JOINBATTLEFAILED Already in a battle" ∷ [])
    ("JOINBATTLEFAILED No such battle" ∷ "JOINBATTLEFAILED Wrong password" ∷ "UPDATEBATTLEINFO 1 0 1 123 Comet Catcher"
    ∷ "JOINBATTLEFAILED The battle is locked" ∷ "#2 JOINBATTLEFAILED The battle is locked" ∷ [])
    ("UPDATEBATTLEINFO 1 0 1 123 Comet Catcher" ∷ [])
unfolding digits
not_joined = refl

-- no password is a wrong one, and so is `*`; a battle may be unlocked again; a member is in a battle as its founder is
abbrev joins_at_last : List Event
joins_at_last =
    says 2 (joins 1) ∷ says 2 (command.JoinBattle 1 (Some (codes "*")) None) ∷ says 2 (joins 0)
    ∷ says 1 (command.UpdateBattleInfo 0 true (pos 1) []) ∷ says 1 (command.UpdateBattleInfo 1 false (pos 1) [])
    ∷ says 2 (command.JoinBattle 1 (Some (codes "sesam")) None) ∷ says 2 (joins 1) ∷ says 2 opens ∷ []

joined_at_last : gets with_password joins_at_last 2 ≡ lines ("JOINBATTLEFAILED Wrong password" ∷ "JOINBATTLEFAILED Wrong password"
    ∷ "JOINBATTLEFAILED No such battle" ∷ "UPDATEBATTLEINFO 1 0 1 1 " ∷ "UPDATEBATTLEINFO 1 1 0 1 " ∷ "JOINBATTLE 1 -1" ∷ "JOINEDBATTLE 1 Bert"
    ∷ "CLIENTBATTLESTATUS Anna 0 0" ∷ "REQUESTBATTLESTATUS" ∷ "JOINBATTLEFAILED Already in a battle" ∷ "OPENBATTLEFAILED Already in a battle" ∷ [])
unfolding digits
joined_at_last = refl

-- one who is in a battle opens none; behind the last number nobody does
not_opened : each_gets two_in_battle (says_with (Some 1) 1 opens ∷ says 2 opens ∷ []) ≡ each
    ("#1 OPENBATTLEFAILED Already in a battle" ∷ [])
    ("OPENBATTLEFAILED Already in a battle" ∷ [])
    []
unfolding digits
not_opened = refl

abbrev one_number_left : State
one_number_left = record (after start three) { last_battle = 2147483646 }

abbrev opened_last : String
opened_last = "BATTLEOPENED 2147483647 0 0 Anna 10.0.0.1 8452 8 0 0 123 Spring\t104.0\tComet Catcher\tAnna's game\tBA 9.46"

already_in_comes_first : put_in one_number_left (says 1 opens ∷ says 1 opens ∷ says 2 opens ∷ []) 1
    ≡ lines (opened_last ∷ "OPENBATTLE 2147483647" ∷ "REQUESTBATTLESTATUS" ∷ "OPENBATTLEFAILED Already in a battle" ∷ [])
unfolding digits
already_in_comes_first = refl

no_number_left : put_in one_number_left (says 1 opens ∷ says 1 opens ∷ says_with (Some 8) 2 opens ∷ []) 2
    ≡ lines (opened_last ∷ "#8 OPENBATTLEFAILED No battle number is left" ∷ [])
unfolding digits
no_number_left = refl

-- the founder changes what is shown of its battle, and all are told
updated : each_gets two_in_battle (says_with (Some 3) 1 (command.UpdateBattleInfo 65535 false (negsuc 2147483647) (codes "Red  Comet")) ∷ [])
    ≡ each
    ("#3 UPDATEBATTLEINFO 1 65535 0 -2147483648 Red  Comet" ∷ [])
    ("UPDATEBATTLEINFO 1 65535 0 -2147483648 Red  Comet" ∷ [])
    ("UPDATEBATTLEINFO 1 65535 0 -2147483648 Red  Comet" ∷ [])
unfolding digits
updated = refl

-- of the status word the unused bits and the handicap are not the member's own
own_status : gets (three ++ (says 1 opens ∷ [])) (says 1 (command.MyBattleStatus 4294967295 (negsuc 0)) ∷ []) 1
    ≡ lines ("CLIENTBATTLESTATUS Anna 264243198 -1" ∷ [])
unfolding digits
own_status = refl

-- members are told of a status, also where nothing changed, and hear what is said in the battle, the issuer among them; others do not
abbrev shows_and_says : List Event
shows_and_says =
    says 2 (command.MyBattleStatus 1024 (pos 255)) ∷ says_with (Some 5) 2 (command.MyBattleStatus 1024 (pos 255))
    ∷ says_with (Some 2) 1 (command.SayBattle (codes "go  now")) ∷ says 2 (command.SayBattleEx (codes "waits")) ∷ says 2 (command.SayBattle []) ∷ []

told_to_members : each_gets two_in_battle shows_and_says ≡ each
    ("CLIENTBATTLESTATUS Bert 1024 255" ∷ "CLIENTBATTLESTATUS Bert 1024 255" ∷ "#2 SAIDBATTLE Anna go  now" ∷ "SAIDBATTLEEX Bert waits"
    ∷ "SAIDBATTLE Bert " ∷ [])
    ("CLIENTBATTLESTATUS Bert 1024 255" ∷ "#5 CLIENTBATTLESTATUS Bert 1024 255" ∷ "SAIDBATTLE Anna go  now" ∷ "SAIDBATTLEEX Bert waits"
    ∷ "SAIDBATTLE Bert " ∷ [])
    []
unfolding digits
told_to_members = refl

-- a member leaves, and all are told, itself among them; when it joins again it has status 0, and stands behind those who stayed
abbrev comes_and_goes : List Event
comes_and_goes =
    says 2 (command.MyBattleStatus 1024 (pos 255)) ∷ says 3 (joins 1) ∷ says_with (Some 7) 2 command.LeaveBattle ∷ says 2 (joins 1)
    ∷ says 3 command.LeaveBattle ∷ says 3 (joins 1) ∷ []

member_leaves : each_gets two_in_battle comes_and_goes ≡ each
    ("CLIENTBATTLESTATUS Bert 1024 255" ∷ "JOINEDBATTLE 1 Cleo" ∷ "LEFTBATTLE 1 Bert" ∷ "JOINEDBATTLE 1 Bert" ∷ "LEFTBATTLE 1 Cleo"
    ∷ "JOINEDBATTLE 1 Cleo" ∷ [])
    ("CLIENTBATTLESTATUS Bert 1024 255" ∷ "JOINEDBATTLE 1 Cleo" ∷ "#7 LEFTBATTLE 1 Bert" ∷ "JOINBATTLE 1 -1" ∷ "JOINEDBATTLE 1 Bert"
    ∷ "CLIENTBATTLESTATUS Anna 0 0" ∷ "CLIENTBATTLESTATUS Cleo 0 0" ∷ "REQUESTBATTLESTATUS" ∷ "LEFTBATTLE 1 Cleo" ∷ "JOINEDBATTLE 1 Cleo" ∷ [])
    ("JOINBATTLE 1 -1" ∷ "JOINEDBATTLE 1 Cleo" ∷ "CLIENTBATTLESTATUS Anna 0 0" ∷ "CLIENTBATTLESTATUS Bert 1024 255" ∷ "REQUESTBATTLESTATUS"
    ∷ "LEFTBATTLE 1 Bert" ∷ "JOINEDBATTLE 1 Bert" ∷ "LEFTBATTLE 1 Cleo" ∷ "JOINBATTLE 1 -1" ∷ "JOINEDBATTLE 1 Cleo"
    ∷ "CLIENTBATTLESTATUS Anna 0 0" ∷ "CLIENTBATTLESTATUS Bert 0 0" ∷ "REQUESTBATTLESTATUS" ∷ [])
unfolding digits
member_leaves = refl

-- the founder's leaving closes the battle: its members are in none, and its number is not used again
abbrev founder_leaves : List Event
founder_leaves = says_with (Some 7) 1 command.LeaveBattle ∷ says 2 command.LeaveBattle ∷ says 3 (joins 1) ∷ says 2 opens ∷ []

closed : each_gets two_in_battle founder_leaves ≡ each
    ("#7 BATTLECLOSED 1" ∷ opened_by_bert ∷ [])
    ("BATTLECLOSED 1" ∷ "SERVERMSG You are not in a battle" ∷ opened_by_bert ∷ "OPENBATTLE 2" ∷ "REQUESTBATTLESTATUS" ∷ [])
    ("BATTLECLOSED 1" ∷ "JOINBATTLEFAILED No such battle" ∷ opened_by_bert ∷ [])
unfolding digits
closed = refl

gone_with_its_founder : (after start (two_in_battle ++ (says 1 command.LeaveBattle ∷ []))).battles ≡ []
unfolding digits
gone_with_its_founder = refl

-- Bert, with a bot, and Cleo are members of Anna's battle; Anna and Bert are in main
abbrev with_guests : List Event
with_guests =
    two_in_battle ++ (says 2 (command.AddBot (codes "Robo") 0 (pos 0) (codes "KAIK")) ∷ says 3 (joins 1) ∷ says 1 (command.Join main None)
    ∷ says 2 (command.Join main None) ∷ [])

-- one who goes leaves its channels, then its battle, then the lobby; it gets nothing of that. Bots of a battle that is closed need no line
founder_goes : each_gets with_guests (event.Shut 1 ∷ []) ≡ each
    []
    ("LEFT main Anna" ∷ "BATTLECLOSED 1" ∷ "REMOVEUSER Anna" ∷ [])
    ("BATTLECLOSED 1" ∷ "REMOVEUSER Anna" ∷ [])
unfolding digits
founder_goes = refl

founder_exits : each_gets with_guests (says_with (Some 1) 1 command.Exit ∷ says 1 command.LeaveBattle ∷ []) ≡ each
    []
    ("LEFT main Anna" ∷ "BATTLECLOSED 1" ∷ "REMOVEUSER Anna" ∷ [])
    ("BATTLECLOSED 1" ∷ "REMOVEUSER Anna" ∷ [])
unfolding digits
founder_exits = refl

nothing_sent_to_who_exits : sent (after start with_guests) (says_with (Some 1) 1 command.Exit) 1 ≡ []
unfolding digits
nothing_sent_to_who_exits = refl

nothing_sent_to_who_goes : sent (after start with_guests) (event.Shut 2) 2 ≡ []
unfolding digits
nothing_sent_to_who_goes = refl

battles_then : (after start (with_guests ++ (event.Shut 1 ∷ []))).battles ≡ []
unfolding digits
battles_then = refl

channels_then : (after start (with_guests ++ (event.Shut 1 ∷ []))).channels ≡ (main, bert ∷ []) ∷ []
unfolding digits
channels_then = refl

abbrev statuses : State → ByName ℕ
statuses s = map_values (λ name user. user.status) s.users

users_then : statuses (after start (with_guests ++ (event.Shut 1 ∷ []))) ≡ (bert, 12) ∷ (cleo, 0) ∷ []
unfolding digits
users_then = refl

member_goes : each_gets with_guests (event.Shut 2 ∷ []) ≡ each
    ("LEFT main Bert" ∷ "REMOVEBOT 1 Robo" ∷ "LEFTBATTLE 1 Bert" ∷ "REMOVEUSER Bert" ∷ [])
    []
    ("REMOVEBOT 1 Robo" ∷ "LEFTBATTLE 1 Bert" ∷ "REMOVEUSER Bert" ∷ [])
unfolding digits
member_goes = refl

member_exits : each_gets two_in_battle (says 2 (command.AddBot (codes "Robo") 0 (pos 0) []) ∷ says 2 command.Exit ∷ []) ≡ each
    ("ADDBOT 1 Robo Bert 0 0 " ∷ "REMOVEBOT 1 Robo" ∷ "LEFTBATTLE 1 Bert" ∷ "REMOVEUSER Bert" ∷ [])
    ("ADDBOT 1 Robo Bert 0 0 " ∷ [])
    ("LEFTBATTLE 1 Bert" ∷ "REMOVEUSER Bert" ∷ [])
unfolding digits
member_exits = refl
