-- Worked examples of users, computed from the definitions.
use Rattle.std.proofs.Common.{◌≡◌, ℕ, List, [], ◌∷◌, ◌++◌, refl, false}
use Rattle.std.specs.Prelude.{codes, pos, map, replicate, Some, is_some}
use Rattle.std.specs.Fmt.{digits}
use Rattle.command_grammar.specs.declared.command.Command.{Command}
use Rattle.command_grammar.specs.declared.command.Command.TheVariants as command
use Rattle.command_grammar.specs.declared.command.ReadFault.TheVariants as fault
use Rattle.lobby_model.specs.declared.event.Event.{Event}
use Rattle.lobby_model.specs.declared.event.Event.TheVariants as event
use Rattle.line_words.specs.Table.{at_name}
use Rattle.lobby_model.specs.History.{after, put_in, taken_in}
use Rattle.lobby_model.proofs.Fixture.{start, lobby, greeting, anna, bert, cleo, right_word, connect, says, says_with, login, lines, commands_of_battles}

-- a login with the right word
abbrev logs_in : List ℕ → Command
logs_in name = login name right_word (pos 0)

-- Anna, and then Bert
abbrev two_log_in : List Event
two_log_in = connect 1 ∷ says 1 (logs_in anna) ∷ connect 2 ∷ says_with (Some 4) 2 (login bert right_word (pos 2400)) ∷ []

first_of_two : put_in start two_log_in 1
    ≡ lines (greeting ∷ "ACCEPTED Anna" ∷ "MOTD Welcome" ∷ "ADDUSER Anna DE 0 1" ∷ "LOGININFOEND" ∷ "ADDUSER Bert ?? 2400 2" ∷ "CLIENTSTATUS Bert 12"
    ∷ [])
unfolding digits
first_of_two = refl

second_of_two : put_in start two_log_in 2
    ≡ lines (greeting ∷ "#4 ACCEPTED Bert" ∷ "#4 MOTD Welcome" ∷ "#4 ADDUSER Anna DE 0 1" ∷ "#4 ADDUSER Bert ?? 2400 2" ∷ "#4 CLIENTSTATUS Bert 12"
    ∷ "#4 LOGININFOEND" ∷ [])
unfolding digits
second_of_two = refl

-- users come in the order of their names, whoever logged in first; one who only connected gets nothing of it
in_order_of_names : put_in start (connect 1 ∷ connect 2 ∷ connect 3 ∷ says 1 (logs_in cleo) ∷ says 2 (logs_in bert) ∷ says 3 (logs_in anna) ∷ []) 3
    ≡ lines (greeting ∷ "ACCEPTED Anna" ∷ "MOTD Welcome" ∷ "ADDUSER Anna DE 0 1" ∷ "ADDUSER Bert ?? 0 2" ∷ "ADDUSER Cleo FR 0 3"
    ∷ "CLIENTSTATUS Bert 12"
    ∷ "LOGININFOEND" ∷ [])
unfolding digits
in_order_of_names = refl

-- a fault is told to one who is logged in as to any other, and PING is answered
faults_are_told : put_in start (connect 1 ∷ says 1 (logs_in anna) ∷ says 1 (command.Unread fault.BadByte) ∷ says_with (Some 0) 1 command.Ping ∷ []) 1
    ≡ lines (greeting ∷ "ACCEPTED Anna" ∷ "MOTD Welcome" ∷ "ADDUSER Anna DE 0 1" ∷ "LOGININFOEND" ∷ "SERVERMSG Bad byte in line" ∷ "#0 PONG" ∷ [])
unfolding digits
faults_are_told = refl

told_to_nobody_else : put_in start (two_log_in ++ (says_with (Some 7) 1 (command.Unread fault.BadByte) ∷ [])) 2
    ≡ lines (greeting ∷ "#4 ACCEPTED Bert" ∷ "#4 MOTD Welcome" ∷ "#4 ADDUSER Anna DE 0 1" ∷ "#4 ADDUSER Bert ?? 2400 2" ∷ "#4 CLIENTSTATUS Bert 12"
    ∷ "#4 LOGININFOEND" ∷ [])
unfolding digits
told_to_nobody_else = refl

-- no user can be in twice, and no client under two names
name_is_taken : put_in start (connect 1 ∷ connect 2 ∷ says 1 (logs_in anna) ∷ says 2 (logs_in anna) ∷ []) 2
    ≡ lines (greeting ∷ "DENIED User is already logged in" ∷ [])
unfolding digits
name_is_taken = refl

second_login : put_in start (connect 1 ∷ says 1 (logs_in anna) ∷ says_with (Some 3) 1 (logs_in anna) ∷ says 1 (logs_in bert)
    ∷ says 1 (logs_in (codes "Zoe")) ∷ []) 1
    ≡ lines (greeting ∷ "ACCEPTED Anna" ∷ "MOTD Welcome" ∷ "ADDUSER Anna DE 0 1" ∷ "LOGININFOEND" ∷ "#3 DENIED Already logged in"
    ∷ "DENIED Already logged in"
    ∷ "DENIED Already logged in" ∷ [])
unfolding digits
second_login = refl

-- a wrong word is told as an unknown name is, also where the user is in; upper and lower case differ
wrong_logins : put_in start (connect 1 ∷ connect 2 ∷ says 1 (logs_in anna) ∷ says 2 (login bert (codes "wrong") (pos 0))
    ∷ says 2 (logs_in (codes "Zoe"))
    ∷ says_with (Some 2) 2 (login anna (codes "wrong") (pos 0)) ∷ says 2 (logs_in (codes "bert")) ∷ []) 2
    ≡ lines (greeting ∷ "DENIED Invalid username or password" ∷ "DENIED Invalid username or password" ∷ "#2 DENIED Invalid username or password"
    ∷ "DENIED Invalid username or password" ∷ [])
unfolding digits
wrong_logins = refl

-- of the status word a user sets what is its own: the rank stays
own_status : put_in start (connect 1 ∷ says 1 (logs_in bert) ∷ says 1 (command.MyStatus 127) ∷ []) 1
    ≡ lines (greeting ∷ "ACCEPTED Bert" ∷ "MOTD Welcome" ∷ "ADDUSER Bert ?? 0 2" ∷ "CLIENTSTATUS Bert 12" ∷ "LOGININFOEND" ∷ "CLIENTSTATUS Bert 15"
    ∷ [])
unfolding digits
own_status = refl

-- all users are told of it, also where nothing changed, and one who logs in later is told what it is then
abbrev told_status : List Event
told_status =
    connect 1 ∷ connect 2 ∷ says 1 (logs_in anna) ∷ says_with (Some 8) 1 (command.MyStatus 1) ∷ says 2 (logs_in bert)
    ∷ says_with (Some 9) 1 (command.MyStatus 1) ∷ []

own_status_told : put_in start told_status 1
    ≡ lines (greeting ∷ "ACCEPTED Anna" ∷ "MOTD Welcome" ∷ "ADDUSER Anna DE 0 1" ∷ "LOGININFOEND" ∷ "#8 CLIENTSTATUS Anna 1" ∷ "ADDUSER Bert ?? 0 2"
    ∷ "CLIENTSTATUS Bert 12" ∷ "#9 CLIENTSTATUS Anna 1" ∷ [])
unfolding digits
own_status_told = refl

status_told_to_another : put_in start told_status 2
    ≡ lines (greeting ∷ "ACCEPTED Bert" ∷ "MOTD Welcome" ∷ "ADDUSER Anna DE 0 1" ∷ "ADDUSER Bert ?? 0 2" ∷ "CLIENTSTATUS Anna 1"
    ∷ "CLIENTSTATUS Bert 12"
    ∷ "LOGININFOEND" ∷ "CLIENTSTATUS Anna 1" ∷ [])
unfolding digits
status_told_to_another = refl

-- Anna goes and says more: nothing of it reaches her, and Bert sees her go once. What waited for her she may still read
abbrev anna_exits : List Event
anna_exits =
    connect 1 ∷ connect 2 ∷ says 1 (logs_in anna) ∷ says 2 (logs_in bert) ∷ says_with (Some 5) 1 command.Exit ∷ says 1 command.Ping
    ∷ says 2 (command.MyStatus 0) ∷ event.Drain 1 1000 ∷ event.Drain 1 1000 ∷ event.Shut 1 ∷ []

exit_seen_by_leaver : put_in start anna_exits 1
    ≡ lines (greeting ∷ "ACCEPTED Anna" ∷ "MOTD Welcome" ∷ "ADDUSER Anna DE 0 1" ∷ "LOGININFOEND" ∷ "ADDUSER Bert ?? 0 2" ∷ "CLIENTSTATUS Bert 12"
    ∷ [])
unfolding digits
exit_seen_by_leaver = refl

read_after_exit : taken_in start anna_exits 1
    ≡ lines (greeting ∷ "ACCEPTED Anna" ∷ "MOTD Welcome" ∷ "ADDUSER Anna DE 0 1" ∷ "LOGININFOEND" ∷ "ADDUSER Bert ?? 0 2" ∷ "CLIENTSTATUS Bert 12"
    ∷ [])
unfolding digits
read_after_exit = refl

exit_seen_by_another : put_in start anna_exits 2
    ≡ lines (greeting ∷ "ACCEPTED Bert" ∷ "MOTD Welcome" ∷ "ADDUSER Anna DE 0 1" ∷ "ADDUSER Bert ?? 0 2" ∷ "CLIENTSTATUS Bert 12" ∷ "LOGININFOEND"
    ∷ "REMOVEUSER Anna" ∷ "CLIENTSTATUS Bert 12" ∷ [])
unfolding digits
exit_seen_by_another = refl

-- a disconnect is a log out; then another may log in under that name
disconnect_seen_by_another : put_in start (connect 1 ∷ connect 2 ∷ connect 3 ∷ says 1 (logs_in anna) ∷ says 2 (logs_in bert) ∷ event.Shut 1
    ∷ says 3 (login anna right_word (pos 5)) ∷ []) 2
    ≡ lines (greeting ∷ "ACCEPTED Bert" ∷ "MOTD Welcome" ∷ "ADDUSER Anna DE 0 1" ∷ "ADDUSER Bert ?? 0 2" ∷ "CLIENTSTATUS Bert 12" ∷ "LOGININFOEND"
    ∷ "REMOVEUSER Anna" ∷ "ADDUSER Anna DE 5 1" ∷ [])
unfolding digits
disconnect_seen_by_another = refl

-- a client that never logged in goes unseen
stranger_goes : put_in start (connect 1 ∷ connect 2 ∷ says 2 (logs_in bert) ∷ event.Shut 1 ∷ []) 2
    ≡ lines (greeting ∷ "ACCEPTED Bert" ∷ "MOTD Welcome" ∷ "ADDUSER Bert ?? 0 2" ∷ "CLIENTSTATUS Bert 12" ∷ "LOGININFOEND" ∷ [])
unfolding digits
stranger_goes = refl

-- each command of a battle is known: Anna opens one, may join no other, closes it, and is in none then
abbrev says_all : List Event
says_all = connect 1 ∷ connect 2 ∷ says 1 (logs_in anna) ∷ says 2 (logs_in bert) ∷ map (says_with (Some 6) 1) commands_of_battles

each_is_known : put_in start says_all 1
    ≡ lines (greeting ∷ "ACCEPTED Anna" ∷ "MOTD Welcome" ∷ "ADDUSER Anna DE 0 1" ∷ "LOGININFOEND" ∷ "ADDUSER Bert ?? 0 2" ∷ "CLIENTSTATUS Bert 12"
    ∷ "#6 BATTLEOPENED 1 0 0 Anna 10.0.0.1 8452 8 0 0 123 Spring\t104.0\tComet Catcher\tAnna's game\tBA 9.46" ∷ "#6 OPENBATTLE 1"
    ∷ "#6 REQUESTBATTLESTATUS" ∷ "#6 JOINBATTLEFAILED Already in a battle" ∷ "#6 BATTLECLOSED 1"
    ∷ replicate 18 "#6 SERVERMSG You are not in a battle")
unfolding digits
each_is_known = refl

told_to_another : put_in start says_all 2
    ≡ lines (greeting ∷ "ACCEPTED Bert" ∷ "MOTD Welcome" ∷ "ADDUSER Anna DE 0 1" ∷ "ADDUSER Bert ?? 0 2" ∷ "CLIENTSTATUS Bert 12" ∷ "LOGININFOEND"
    ∷ "BATTLEOPENED 1 0 0 Anna 10.0.0.1 8452 8 0 0 123 Spring\t104.0\tComet Catcher\tAnna's game\tBA 9.46" ∷ "BATTLECLOSED 1" ∷ [])
unfolding digits
told_to_another = refl

-- Bert has room for what he gets. Anna, who read nothing, has none for the lines of her own login, 125 bytes with the greeting: she is cut.
-- The others get to know her, and she is there until she is shut. Cleo, who reads what she gets, has room
abbrev cut_at_login : List Event
cut_at_login =
    connect 1 ∷ connect 2 ∷ connect 3 ∷ says 1 (logs_in bert) ∷ event.Drain 1 200 ∷ says 2 (logs_in anna) ∷ event.Drain 3 24 ∷ says 3 (logs_in anna)
    ∷ event.Drain 3 33 ∷ says 3 (logs_in cleo) ∷ event.Drain 1 200 ∷ event.Drain 3 200 ∷ says 2 command.Ping ∷ event.Shut 2 ∷ []

cut_at_its_login : put_in (lobby 124) cut_at_login 2 ≡ lines (greeting ∷ [])
unfolding digits
cut_at_its_login = refl

others_see_it : put_in (lobby 124) cut_at_login 1
    ≡ lines (greeting ∷ "ACCEPTED Bert" ∷ "MOTD Welcome" ∷ "ADDUSER Bert ?? 0 2" ∷ "CLIENTSTATUS Bert 12" ∷ "LOGININFOEND" ∷ "ADDUSER Anna DE 0 1"
    ∷ "ADDUSER Cleo FR 0 3" ∷ "REMOVEUSER Anna" ∷ [])
unfolding digits
others_see_it = refl

it_stays_listed : put_in (lobby 124) cut_at_login 3
    ≡ lines (greeting ∷ "DENIED User is already logged in" ∷ "ACCEPTED Cleo" ∷ "MOTD Welcome" ∷ "ADDUSER Anna DE 0 1" ∷ "ADDUSER Bert ?? 0 2"
    ∷ "ADDUSER Cleo FR 0 3" ∷ "CLIENTSTATUS Bert 12" ∷ "LOGININFOEND" ∷ "REMOVEUSER Anna" ∷ [])
unfolding digits
it_stays_listed = refl

until_it_is_shut : is_some (at_name (after (lobby 124) cut_at_login).users anna) ≡ false
unfolding digits
until_it_is_shut = refl
