-- Worked examples of channels and private talk, computed from the definitions.
use Rattle.std.proofs.Common.{◌≡◌, ℕ, List, [], ◌∷◌, ◌++◌, refl}
use Rattle.std.specs.Prelude.{codes, pos, replicate, Some, None}
use Rattle.std.specs.Fmt.{digits}
use Rattle.command_grammar.specs.declared.command.Command.{Command}
use Rattle.command_grammar.specs.declared.command.Command.TheVariants as command
use Rattle.lobby_model.specs.declared.event.Event.{Event}
use Rattle.lobby_model.specs.declared.event.Event.TheVariants as event
use Rattle.lobby_model.specs.History.{after}
use Rattle.lobby_model.proofs.Fixture.{start, greeting, anna, bert, main, right_word, connect, says, says_with, login, lines, three, gets, each_gets, each}

abbrev big : List ℕ
big = codes "big"

abbrev join_main : Command
join_main = command.Join main None

abbrev join_big : Command
join_big = command.Join big None

-- who joins is told who is in, in order of joining, itself last; those in it are told of the joiner, those outside nothing
joined_in_turn : each_gets three (says 1 join_main ∷ says 2 join_main ∷ []) ≡ each
    ("JOIN main" ∷ "CLIENTS main Anna" ∷ "JOINED main Bert" ∷ [])
    ("JOIN main" ∷ "CLIENTS main Anna Bert" ∷ [])
    []
unfolding digits
joined_in_turn = refl

joined_in_the_other_turn : each_gets three (says 2 join_main ∷ says 1 join_main ∷ []) ≡ each
    ("JOIN main" ∷ "CLIENTS main Bert Anna" ∷ [])
    ("JOIN main" ∷ "CLIENTS main Bert" ∷ "JOINED main Anna" ∷ [])
    []
unfolding digits
joined_in_the_other_turn = refl

-- the id stands on all lines of the joiner and on no other; a key makes no difference
abbrev joins_with_key : Event
joins_with_key = says_with (Some 7) 3 (command.Join main (Some (codes "sesam")))

joined_with_key : each_gets three (says 2 join_main ∷ says 1 join_main ∷ joins_with_key ∷ []) ≡ each
    ("JOIN main" ∷ "CLIENTS main Bert Anna" ∷ "JOINED main Cleo" ∷ [])
    ("JOIN main" ∷ "CLIENTS main Bert" ∷ "JOINED main Anna" ∷ "JOINED main Cleo" ∷ [])
    ("#7 JOIN main" ∷ "#7 CLIENTS main Bert Anna Cleo" ∷ [])
unfolding digits
joined_with_key = refl

-- Anna and Bert are in main, Anna alone in big
abbrev two_channels : List Event
two_channels = three ++ (says 1 join_main ∷ says 2 join_main ∷ says 1 join_big ∷ [])

-- upper and lower case differ
already_in : each_gets two_channels (says_with (Some 3) 2 join_main ∷ says 2 (command.Join (codes "Main") None) ∷ []) ≡ each
    []
    ("#3 JOINFAILED main Already in the channel" ∷ "JOIN Main" ∷ "CLIENTS Main Bert" ∷ [])
    []
unfolding digits
already_in = refl

-- channels are listed in the order of their names, each with how many are in it; one that nobody is in any more is gone
abbrev leaves_big : List Event
leaves_big = says 2 command.Channels ∷ says 1 (command.Leave big) ∷ says 1 (command.Say big (codes "x")) ∷ says_with (Some 2) 3 command.Channels ∷ []

listed : each_gets two_channels leaves_big ≡ each
    ("LEFT big Anna" ∷ "SERVERMSG You are not in that channel" ∷ [])
    ("CHANNEL big 1" ∷ "CHANNEL main 2" ∷ "ENDOFCHANNELS" ∷ [])
    ("#2 CHANNEL main 2" ∷ "#2 ENDOFCHANNELS" ∷ [])
unfolding digits
listed = refl

gone_with_the_last : (after start (two_channels ++ leaves_big)).channels ≡ (main, anna ∷ bert ∷ []) ∷ []
unfolding digits
gone_with_the_last = refl

none_listed : gets three (says 3 command.Channels ∷ []) 3 ≡ lines ("ENDOFCHANNELS" ∷ [])
unfolding digits
none_listed = refl

-- who leaves is told too, under its id; one who comes again is the last
left : each_gets two_channels (says_with (Some 4) 1 (command.Leave main) ∷ says 1 join_main ∷ []) ≡ each
    ("#4 LEFT main Anna" ∷ "JOIN main" ∷ "CLIENTS main Bert Anna" ∷ [])
    ("LEFT main Anna" ∷ "JOINED main Anna" ∷ [])
    []
unfolding digits
left = refl

-- one is not in a channel that one left, that others are in, that is not there
abbrev talks_outside : List Event
talks_outside =
    says 2 (command.Leave main) ∷ says 2 (command.Leave main) ∷ says 2 (command.Say main (codes "x")) ∷ says 2 (command.SayEx big (codes "x"))
    ∷ says_with (Some 6) 3 (command.Leave main) ∷ says 3 (command.Say (codes "none") (codes "x")) ∷ []

not_in : each_gets two_channels talks_outside ≡ each
    ("LEFT main Bert" ∷ [])
    ("LEFT main Bert" ∷ replicate 3 "SERVERMSG You are not in that channel")
    ("#6 SERVERMSG You are not in that channel" ∷ "SERVERMSG You are not in that channel" ∷ [])
unfolding digits
not_in = refl

-- the speaker hears itself, its id stands on its own line alone; spaces and tabs belong to the text, and a text may be empty
abbrev talks : List Event
talks =
    says_with (Some 8) 2 (command.Say main (codes "hi  there\tAnna ")) ∷ says 1 (command.SayEx main (codes "waves"))
    ∷ says 1 (command.Say main []) ∷ []

said : each_gets two_channels talks ≡ each
    ("SAID main Bert hi  there\tAnna " ∷ "SAIDEX main Anna waves" ∷ "SAID main Anna " ∷ [])
    ("#8 SAID main Bert hi  there\tAnna " ∷ "SAIDEX main Anna waves" ∷ "SAID main Anna " ∷ [])
    []
unfolding digits
said = refl

-- bytes that are no ASCII pass as they are
bytes_pass : gets two_channels (says 1 (command.Say main (195 ∷ 164 ∷ 255 ∷ 0 ∷ [])) ∷ []) 2
    ≡ codes "SAID main Anna " ++ (195 ∷ 164 ∷ 255 ∷ 0 ∷ 10 ∷ [])
unfolding digits
bytes_pass = refl

-- private talk, with one who is there, with one who is not, with oneself; upper and lower case differ
abbrev talks_in_private : List Event
talks_in_private =
    says_with (Some 9) 1 (command.SayPrivate bert (codes "hi  there")) ∷ says 1 (command.SayPrivate (codes "Zoe") (codes "x"))
    ∷ says 1 (command.SayPrivate anna (codes "x")) ∷ says_with (Some 10) 1 (command.SayPrivate (codes "bert") (codes "x")) ∷ []

said_in_private : each_gets three talks_in_private ≡ each
    ("#9 SAYPRIVATE Bert hi  there" ∷ "SERVERMSG No such user" ∷ "SAYPRIVATE Anna x" ∷ "SAIDPRIVATE Anna x" ∷ "#10 SERVERMSG No such user" ∷ [])
    ("SAIDPRIVATE Anna hi  there" ∷ [])
    []
unfolding digits
said_in_private = refl

-- Bert has an account and a client, but is not logged in
not_logged_in : gets (connect 1 ∷ connect 2 ∷ says 1 (login anna right_word (pos 0)) ∷ []) (says 1 (command.SayPrivate bert (codes "x")) ∷ []) 1
    ≡ lines ("SERVERMSG No such user" ∷ [])
unfolding digits
not_logged_in = refl

-- one who goes leaves its channels in the order of their names, whichever it joined first; those who share none see the user go
abbrev both_in_both : List Event
both_in_both = three ++ (says 1 join_main ∷ says 1 join_big ∷ says 2 join_main ∷ says 2 join_big ∷ [])

disconnect_leaves_all : each_gets both_in_both (event.Shut 1 ∷ []) ≡ each
    []
    ("LEFT big Anna" ∷ "LEFT main Anna" ∷ "REMOVEUSER Anna" ∷ [])
    ("REMOVEUSER Anna" ∷ [])
unfolding digits
disconnect_leaves_all = refl

exit_leaves_all : each_gets both_in_both (says_with (Some 5) 1 command.Exit ∷ says 1 command.Channels ∷ says 2 (command.Leave big) ∷ []) ≡ each
    []
    ("LEFT big Anna" ∷ "LEFT main Anna" ∷ "REMOVEUSER Anna" ∷ "LEFT big Bert" ∷ [])
    ("REMOVEUSER Anna" ∷ [])
unfolding digits
exit_leaves_all = refl

in_it_after_a_log_out : (after start (both_in_both ++ (says 1 command.Exit ∷ []))).channels ≡ (big, bert ∷ []) ∷ (main, bert ∷ []) ∷ []
unfolding digits
in_it_after_a_log_out = refl

gone_with_the_last_log_out : (after start (both_in_both ++ (says 1 command.Exit ∷ event.Shut 2 ∷ []))).channels ≡ []
unfolding digits
gone_with_the_last_log_out = refl

-- one who logs in again is in no channel
abbrev comes_again : List Event
comes_again = event.Shut 1 ∷ connect 4 ∷ says 4 (login anna right_word (pos 0)) ∷ says_with (Some 1) 4 (command.Leave main) ∷ []

in_none_after_a_login : gets both_in_both comes_again 4
    ≡ lines (greeting ∷ "ACCEPTED Anna" ∷ "MOTD Welcome" ∷ "ADDUSER Anna DE 0 1" ∷ "ADDUSER Bert ?? 0 2" ∷ "ADDUSER Cleo FR 0 3"
    ∷ "CLIENTSTATUS Bert 12" ∷ "LOGININFOEND" ∷ "#1 SERVERMSG You are not in that channel" ∷ [])
unfolding digits
in_none_after_a_login = refl
