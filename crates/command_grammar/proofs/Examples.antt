-- Worked lines, and the requests that they read as. In a line 9 is a tab, 10 LF and 13 CR.
use Rattle.std.proofs.Common.{◌≡◌, ℕ, List, [], ◌∷◌, ◌++◌, refl, subst, true, false}
use Rattle.std.specs.Prelude.{pos, negsuc, codes, Option, Some, None}
use Rattle.command_grammar.specs.declared.command.ReadFault.TheVariants as fault
use Rattle.command_grammar.specs.declared.command.Command.{Command}
use Rattle.command_grammar.specs.declared.command.Command.TheVariants as command
use Rattle.command_grammar.specs.declared.command.Request.{Request}
use Rattle.command_grammar.specs.Readers.{pair, word_at, optional_at, name_at, number_in, number_at, natural_at, wide_at, flag_at, text_at, optional_text_at, login_flags_at, sentence_at, pair_in, pairs_of, pairs_at, words_in, words_at}
use Rattle.command_grammar.specs.Table.{entries, battle_entries, room_entries, host_entries}
use Rattle.command_grammar.specs.Reads.{Reads}
use Rattle.command_grammar.specs.Reading.{request_of, text_of, numbered}
use Rattle.command_grammar.proofs.Lines.{request_read}

abbrev request : Option ℕ → Command → Request
request id c = record { id = id; command = c }

abbrev EachReads : List (List ℕ × Request) → Type 0
EachReads [] = Unit {0}
EachReads (x ∷ xs) = Reads x.0 x.1 × EachReads xs

abbrev EachIs : List (List ℕ × Request) → Type 0
EachIs [] = Unit {0}
EachIs (x ∷ xs) = (request_of x.0 ≡ x.1) × EachIs xs

each_reads : (rows : List (List ℕ × Request)) → EachIs rows → EachReads rows
each_reads [] h = tt
each_reads (x ∷ xs) h = (subst (λ (r : Request). Reads x.0 r) h.0 (request_read x.0), each_reads xs h.1)

-- a line of each command
abbrev good_lines : List (List ℕ × Request)
good_lines =
    (codes "PING", request None command.Ping)
    ∷ (codes "PING and more", request None command.Ping)
    ∷ (codes "CHANNELS", request None command.Channels)
    ∷ (codes "LEAVEBATTLE  ", request None command.LeaveBattle)
    ∷ (codes "EXIT", request None command.Exit)
    ∷ (codes "EXIT bye", request None command.Exit)
    ∷ (codes "LOGIN Anna X03MO1qnZdYdgyfeuILPmQ== 2400 * TestLobby 1.0" ++ (9 ∷ (codes "0" ++ (9 ∷ (codes "sp b")))), request None (command.Login (codes "Anna") (codes "X03MO1qnZdYdgyfeuILPmQ==") (pos 2400) (codes "*") (codes "TestLobby 1.0") true))
    ∷ (codes "MYSTATUS 127", request None (command.MyStatus 127))
    ∷ (codes "MYSTATUS -0", request None (command.MyStatus 0))
    ∷ (codes "MYSTATUS 4294967295 more", request None (command.MyStatus 4294967295))
    ∷ (codes "JOIN  main  ", request None (command.Join (codes "main") None))
    ∷ (codes "JOIN main key", request None (command.Join (codes "main") (Some (codes "key"))))
    ∷ (codes "LEAVE a_[b]", request None (command.Leave (codes "a_[b]")))
    ∷ (codes "SAY main ", request None (command.Say (codes "main") []))
    ∷ (codes "SAY main a b", request None (command.Say (codes "main") (codes "a b")))
    ∷ (codes "SAYEX main waves", request None (command.SayEx (codes "main") (codes "waves")))
    ∷ (codes "SAYPRIVATE Bert  hi", request None (command.SayPrivate (codes "Bert") (codes " hi")))
    ∷ (codes "OPENBATTLE 0 2 * 8452 8 -1 0 4294967295 Spring" ++ (9 ∷ (codes "104.0" ++ (9 ∷ (codes "Comet Catcher" ++ (9 ∷ (codes "Anna's game" ++ (9 ∷ (codes "BA 9.46")))))))), request None (command.OpenBattle 0 2 (codes "*") 8452 8 (negsuc 0) (pos 0) (pos 4294967295) (codes "Spring") (codes "104.0") (codes "Comet Catcher") (codes "Anna's game") (codes "BA 9.46")))
    ∷ (codes "OPENBATTLE 0 0 * 0 0 0 0 0 " ++ (9 ∷ (9 ∷ (9 ∷ (9 ∷ [])))), request None (command.OpenBattle 0 0 (codes "*") 0 0 (pos 0) (pos 0) (pos 0) [] [] [] [] []))
    ∷ (codes "JOINBATTLE 1", request None (command.JoinBattle 1 None None))
    ∷ (codes "JOINBATTLE 1 * pw9", request None (command.JoinBattle 1 (Some (codes "*")) (Some (codes "pw9"))))
    ∷ (codes "UPDATEBATTLEINFO 0 1 123 Comet Catcher", request None (command.UpdateBattleInfo 0 true (pos 123) (codes "Comet Catcher")))
    ∷ (codes "MYBATTLESTATUS 4294967295 -1", request None (command.MyBattleStatus 4294967295 (negsuc 0)))
    ∷ (codes "SAYBATTLE ", request None (command.SayBattle []))
    ∷ (codes "SAYBATTLEEX hi", request None (command.SayBattleEx (codes "hi")))
    ∷ (codes "ADDBOT Robo-1 1024 255 KAIK", request None (command.AddBot (codes "Robo-1") 1024 (pos 255) (codes "KAIK")))
    ∷ (codes "UPDATEBOT Robo 0 -2147483648", request None (command.UpdateBot (codes "Robo") 0 (negsuc 2147483647)))
    ∷ (codes "REMOVEBOT Robo", request None (command.RemoveBot (codes "Robo")))
    ∷ (codes "ADDSTARTRECT 1 0 0 200 60", request None (command.AddStartRect 1 0 0 200 60))
    ∷ (codes "REMOVESTARTRECT 015", request None (command.RemoveStartRect 15))
    ∷ (codes "SETSCRIPTTAGS " ++ (9 ∷ (codes "a=1" ++ (9 ∷ (9 ∷ (codes "b="))))), request None (command.SetScriptTags (pair (codes "a") (codes "1") ∷ pair (codes "b") [] ∷ [])))
    ∷ (codes "SETSCRIPTTAGS a==b c", request None (command.SetScriptTags (pair (codes "a") (codes "=b c") ∷ [])))
    ∷ (codes "REMOVESCRIPTTAGS k2 k1  k2 ", request None (command.RemoveScriptTags (codes "k2" ∷ codes "k1" ∷ codes "k2" ∷ [])))
    ∷ (codes "HANDICAP Anna 50", request None (command.Handicap (codes "Anna") 50))
    ∷ (codes "FORCETEAMNO Bert 5", request None (command.ForceTeamNo (codes "Bert") 5))
    ∷ (codes "FORCEALLYNO Bert 15", request None (command.ForceAllyNo (codes "Bert") 15))
    ∷ (codes "FORCETEAMCOLOR Bert 255", request None (command.ForceTeamColor (codes "Bert") (pos 255)))
    ∷ (codes "FORCESPECTATORMODE Bert", request None (command.ForceSpectatorMode (codes "Bert")))
    ∷ (codes "KICKFROMBATTLE Bert", request None (command.KickFromBattle (codes "Bert")))
    ∷ (codes "RING Bert", request None (command.Ring (codes "Bert")))
    ∷ ([], request None command.Blank)
    ∷ (codes "   ", request None command.Blank)
    ∷ []

good_lines_read : EachReads good_lines
unfolding request_of entries battle_entries room_entries host_entries text_of numbered word_at optional_at name_at number_in number_at natural_at wide_at flag_at text_at optional_text_at login_flags_at sentence_at pair_in pairs_of pairs_at words_in words_at
good_lines_read = each_reads good_lines (refl, (refl, (refl, (refl, (refl, (refl, (refl, (refl, (refl, (refl, (refl, (refl, (refl, (refl, (refl, (refl, (refl, (refl, (refl, (refl, (refl, (refl, (refl, (refl, (refl, (refl, (refl, (refl, (refl, (refl, (refl, (refl, (refl, (refl, (refl, (refl, (refl, (refl, (refl, (refl, (refl, (refl, tt))))))))))))))))))))))))))))))))))))))))))

-- each fault of each command
abbrev bad_lines : List (List ℕ × Request)
bad_lines =
    (codes "ping", request None (command.Unread fault.UnknownCommand))
    ∷ (codes "#9", request None (command.Unread fault.UnknownCommand))
    ∷ (codes "PINGS", request None (command.Unread fault.UnknownCommand))
    ∷ (codes "PING" ++ (9 ∷ []), request None (command.Unread fault.UnknownCommand))
    ∷ (codes "#1x PING", request None (command.Unread fault.UnknownCommand))
    ∷ (codes "PING" ++ (13 ∷ []), request None (command.Unread fault.BadByte))
    ∷ (codes "SAY main a" ++ (13 ∷ (codes "b")), request None (command.Unread fault.BadByte))
    ∷ (codes "PING a" ++ (10 ∷ (codes "b")), request None (command.Unread fault.BadByte))
    ∷ (codes "LOGIN", request None (command.Unread fault.MissingArgument))
    ∷ (codes "LOGIN Anna", request None (command.Unread fault.MissingArgument))
    ∷ (codes "LOGIN Anna x 0", request None (command.Unread fault.MissingArgument))
    ∷ (codes "LOGIN Anna x 0 *", request None (command.Unread fault.MissingArgument))
    ∷ (codes "LOGIN Anna x zero * v", request None (command.Unread fault.BadNumber))
    ∷ (codes "LOGIN Anna x 4294967296 * v", request None (command.Unread fault.BadNumber))
    ∷ (codes "LOGIN Anna x" ++ (9 ∷ (codes " 0 * v")), request None (command.Unread fault.BadByte))
    ∷ (codes "MYSTATUS", request None (command.Unread fault.MissingArgument))
    ∷ (codes "MYSTATUS 1x", request None (command.Unread fault.BadNumber))
    ∷ (codes "MYSTATUS 4294967296", request None (command.Unread fault.BadNumber))
    ∷ (codes "MYSTATUS 00000000001", request None (command.Unread fault.BadNumber))
    ∷ (codes "MYSTATUS -1", request None (command.Unread fault.BadNumber))
    ∷ (codes "MYSTATUS 1" ++ (9 ∷ []), request None (command.Unread fault.BadByte))
    ∷ (codes "JOIN", request None (command.Unread fault.MissingArgument))
    ∷ (codes "JOIN a-b", request None (command.Unread fault.BadName))
    ∷ (codes "JOIN a" ++ (9 ∷ (codes "b")), request None (command.Unread fault.BadByte))
    ∷ (codes "JOIN main k" ++ (9 ∷ (codes "x")), request None (command.Unread fault.BadByte))
    ∷ (codes "JOIN abcdefghijklmnopqrstu", request None (command.Unread fault.BadName))
    ∷ (codes "LEAVE", request None (command.Unread fault.MissingArgument))
    ∷ (codes "LEAVE a-b", request None (command.Unread fault.BadName))
    ∷ (codes "LEAVE a" ++ (9 ∷ []), request None (command.Unread fault.BadByte))
    ∷ (codes "SAY", request None (command.Unread fault.MissingArgument))
    ∷ (codes "SAY main", request None (command.Unread fault.MissingArgument))
    ∷ (codes "SAY a-b x", request None (command.Unread fault.BadName))
    ∷ (codes "SAY a" ++ (9 ∷ (codes "b x")), request None (command.Unread fault.BadByte))
    ∷ (codes "SAYEX main", request None (command.Unread fault.MissingArgument))
    ∷ (codes "SAYEX a-b x", request None (command.Unread fault.BadName))
    ∷ (codes "SAYEX a" ++ (9 ∷ (codes "b x")), request None (command.Unread fault.BadByte))
    ∷ (codes "SAYPRIVATE Bert", request None (command.Unread fault.MissingArgument))
    ∷ (codes "SAYPRIVATE B-t x", request None (command.Unread fault.BadName))
    ∷ (codes "SAYPRIVATE B" ++ (9 ∷ (codes "t x")), request None (command.Unread fault.BadByte))
    ∷ (codes "OPENBATTLE 0 0 * 0 0 0 0", request None (command.Unread fault.MissingArgument))
    ∷ (codes "OPENBATTLE 0 0 * 0 0 0 0 0", request None (command.Unread fault.MissingArgument))
    ∷ (codes "OPENBATTLE 0 0 * 0 0 0 0 0 a" ++ (9 ∷ (codes "b" ++ (9 ∷ (codes "c" ++ (9 ∷ (codes "d")))))), request None (command.Unread fault.MissingArgument))
    ∷ (codes "OPENBATTLE 2 0", request None (command.Unread fault.BadNumber))
    ∷ (codes "OPENBATTLE 0 3", request None (command.Unread fault.BadNumber))
    ∷ (codes "OPENBATTLE 0 0 * 65536", request None (command.Unread fault.BadNumber))
    ∷ (codes "OPENBATTLE 0 0 * 0 65536", request None (command.Unread fault.BadNumber))
    ∷ (codes "OPENBATTLE 0 0 *" ++ (9 ∷ []), request None (command.Unread fault.BadByte))
    ∷ (codes "JOINBATTLE", request None (command.Unread fault.MissingArgument))
    ∷ (codes "JOINBATTLE 2147483648", request None (command.Unread fault.BadNumber))
    ∷ (codes "JOINBATTLE -1", request None (command.Unread fault.BadNumber))
    ∷ (codes "JOINBATTLE 1" ++ (9 ∷ []), request None (command.Unread fault.BadByte))
    ∷ (codes "JOINBATTLE 1 x" ++ (9 ∷ []), request None (command.Unread fault.BadByte))
    ∷ (codes "JOINBATTLE 1 x y" ++ (9 ∷ []), request None (command.Unread fault.BadByte))
    ∷ (codes "UPDATEBATTLEINFO 0 0 0", request None (command.Unread fault.MissingArgument))
    ∷ (codes "UPDATEBATTLEINFO 0 2 0 x", request None (command.Unread fault.BadNumber))
    ∷ (codes "UPDATEBATTLEINFO 65536 0 0 x", request None (command.Unread fault.BadNumber))
    ∷ (codes "UPDATEBATTLEINFO 0" ++ (9 ∷ (codes " 0 0 x")), request None (command.Unread fault.BadByte))
    ∷ (codes "MYBATTLESTATUS 0", request None (command.Unread fault.MissingArgument))
    ∷ (codes "MYBATTLESTATUS 0 -2147483649", request None (command.Unread fault.BadNumber))
    ∷ (codes "MYBATTLESTATUS 0 0" ++ (9 ∷ []), request None (command.Unread fault.BadByte))
    ∷ (codes "SAYBATTLE", request None (command.Unread fault.MissingArgument))
    ∷ (codes "SAYBATTLEEX", request None (command.Unread fault.MissingArgument))
    ∷ (codes "ADDBOT Robo 0 0", request None (command.Unread fault.MissingArgument))
    ∷ (codes "ADDBOT Robo -1 0 x", request None (command.Unread fault.BadNumber))
    ∷ (codes "ADDBOT Ro" ++ (9 ∷ (codes "bo 0 0 x")), request None (command.Unread fault.BadByte))
    ∷ (codes "UPDATEBOT Robo 0", request None (command.Unread fault.MissingArgument))
    ∷ (codes "UPDATEBOT Robo 0 x", request None (command.Unread fault.BadNumber))
    ∷ (codes "UPDATEBOT Robo" ++ (9 ∷ (codes " 0 0")), request None (command.Unread fault.BadByte))
    ∷ (codes "REMOVEBOT ", request None (command.Unread fault.MissingArgument))
    ∷ (codes "REMOVEBOT Ro" ++ (9 ∷ (codes "bo")), request None (command.Unread fault.BadByte))
    ∷ (codes "ADDSTARTRECT 1 0 0 0", request None (command.Unread fault.MissingArgument))
    ∷ (codes "ADDSTARTRECT 16 0 0 0 0", request None (command.Unread fault.BadNumber))
    ∷ (codes "ADDSTARTRECT 0 201 0 0 0", request None (command.Unread fault.BadNumber))
    ∷ (codes "ADDSTARTRECT 0 0 0 0 201", request None (command.Unread fault.BadNumber))
    ∷ (codes "ADDSTARTRECT 0 0" ++ (9 ∷ []), request None (command.Unread fault.BadByte))
    ∷ (codes "REMOVESTARTRECT", request None (command.Unread fault.MissingArgument))
    ∷ (codes "REMOVESTARTRECT 16", request None (command.Unread fault.BadNumber))
    ∷ (codes "REMOVESTARTRECT 1" ++ (9 ∷ []), request None (command.Unread fault.BadByte))
    ∷ (codes "SETSCRIPTTAGS", request None (command.Unread fault.MissingArgument))
    ∷ (codes "SETSCRIPTTAGS ", request None (command.Unread fault.MissingArgument))
    ∷ (codes "SETSCRIPTTAGS " ++ (9 ∷ (9 ∷ [])), request None (command.Unread fault.MissingArgument))
    ∷ (codes "SETSCRIPTTAGS =1", request None (command.Unread fault.BadPair))
    ∷ (codes "SETSCRIPTTAGS  a=1", request None (command.Unread fault.BadPair))
    ∷ (codes "SETSCRIPTTAGS a=1" ++ (9 ∷ (codes "b")), request None (command.Unread fault.BadPair))
    ∷ (codes "SETSCRIPTTAGS b" ++ (9 ∷ (codes "a=1")), request None (command.Unread fault.BadPair))
    ∷ (codes "REMOVESCRIPTTAGS", request None (command.Unread fault.MissingArgument))
    ∷ (codes "REMOVESCRIPTTAGS  ", request None (command.Unread fault.MissingArgument))
    ∷ (codes "REMOVESCRIPTTAGS a b" ++ (9 ∷ (codes "c")), request None (command.Unread fault.BadByte))
    ∷ (codes "HANDICAP Anna", request None (command.Unread fault.MissingArgument))
    ∷ (codes "HANDICAP Anna 101", request None (command.Unread fault.BadNumber))
    ∷ (codes "HANDICAP A-a 1", request None (command.Unread fault.BadName))
    ∷ (codes "HANDICAP Anna" ++ (9 ∷ (codes " 1")), request None (command.Unread fault.BadByte))
    ∷ (codes "FORCETEAMNO Bert", request None (command.Unread fault.MissingArgument))
    ∷ (codes "FORCETEAMNO Bert 16", request None (command.Unread fault.BadNumber))
    ∷ (codes "FORCETEAMNO B-t 1", request None (command.Unread fault.BadName))
    ∷ (codes "FORCETEAMNO Bert 1" ++ (9 ∷ []), request None (command.Unread fault.BadByte))
    ∷ (codes "FORCEALLYNO Bert", request None (command.Unread fault.MissingArgument))
    ∷ (codes "FORCEALLYNO Bert 16", request None (command.Unread fault.BadNumber))
    ∷ (codes "FORCEALLYNO B-t 1", request None (command.Unread fault.BadName))
    ∷ (codes "FORCEALLYNO Bert 1" ++ (9 ∷ []), request None (command.Unread fault.BadByte))
    ∷ (codes "FORCETEAMCOLOR Bert", request None (command.Unread fault.MissingArgument))
    ∷ (codes "FORCETEAMCOLOR Bert x", request None (command.Unread fault.BadNumber))
    ∷ (codes "FORCETEAMCOLOR B-t 1", request None (command.Unread fault.BadName))
    ∷ (codes "FORCETEAMCOLOR Bert 1" ++ (9 ∷ []), request None (command.Unread fault.BadByte))
    ∷ (codes "FORCESPECTATORMODE", request None (command.Unread fault.MissingArgument))
    ∷ (codes "FORCESPECTATORMODE B-t", request None (command.Unread fault.BadName))
    ∷ (codes "FORCESPECTATORMODE B" ++ (9 ∷ (codes "t")), request None (command.Unread fault.BadByte))
    ∷ (codes "KICKFROMBATTLE", request None (command.Unread fault.MissingArgument))
    ∷ (codes "KICKFROMBATTLE B-t", request None (command.Unread fault.BadName))
    ∷ (codes "KICKFROMBATTLE B" ++ (9 ∷ (codes "t")), request None (command.Unread fault.BadByte))
    ∷ (codes "RING", request None (command.Unread fault.MissingArgument))
    ∷ (codes "RING B-t", request None (command.Unread fault.BadName))
    ∷ (codes "RING B" ++ (9 ∷ (codes "t")), request None (command.Unread fault.BadByte))
    ∷ []

bad_lines_read : EachReads bad_lines
unfolding request_of entries battle_entries room_entries host_entries text_of numbered word_at optional_at name_at number_in number_at natural_at wide_at flag_at text_at optional_text_at login_flags_at sentence_at pair_in pairs_of pairs_at words_in words_at
bad_lines_read = each_reads bad_lines (refl, (refl, (refl, (refl, (refl, (refl, (refl, (refl, (refl, (refl, (refl, (refl, (refl, (refl, (refl, (refl, (refl, (refl, (refl, (refl, (refl, (refl, (refl, (refl, (refl, (refl, (refl, (refl, (refl, (refl, (refl, (refl, (refl, (refl, (refl, (refl, (refl, (refl, (refl, (refl, (refl, (refl, (refl, (refl, (refl, (refl, (refl, (refl, (refl, (refl, (refl, (refl, (refl, (refl, (refl, (refl, (refl, (refl, (refl, (refl, (refl, (refl, (refl, (refl, (refl, (refl, (refl, (refl, (refl, (refl, (refl, (refl, (refl, (refl, (refl, (refl, (refl, (refl, (refl, (refl, (refl, (refl, (refl, (refl, (refl, (refl, (refl, (refl, (refl, (refl, (refl, (refl, (refl, (refl, (refl, (refl, (refl, (refl, (refl, (refl, (refl, (refl, (refl, (refl, (refl, (refl, (refl, (refl, (refl, (refl, (refl, (refl, (refl, tt)))))))))))))))))))))))))))))))))))))))))))))))))))))))))))))))))))))))))))))))))))))))))))))))))))))))))))))))))

-- message ids
abbrev lines_with_ids : List (List ℕ × Request)
lines_with_ids =
    (codes "  #7 PING", request (Some 7) command.Ping)
    ∷ (codes "#007  PING", request (Some 7) command.Ping)
    ∷ (codes "#2147483647 PING", request (Some 2147483647) command.Ping)
    ∷ (codes "#2147483648 PING", request None (command.Unread fault.UnknownCommand))
    ∷ (codes "#9 ", request (Some 9) command.Blank)
    ∷ (codes "#1 #2 PING", request (Some 1) (command.Unread fault.UnknownCommand))
    ∷ (codes "#00000000001 PING", request None (command.Unread fault.UnknownCommand))
    ∷ (codes "#-1 PING", request None (command.Unread fault.UnknownCommand))
    ∷ (codes "# PING", request None (command.Unread fault.UnknownCommand))
    ∷ (codes "#5 SAY main", request (Some 5) (command.Unread fault.MissingArgument))
    ∷ (codes "#5 PING" ++ (13 ∷ []), request (Some 5) (command.Unread fault.BadByte))
    ∷ []

lines_with_ids_read : EachReads lines_with_ids
unfolding request_of entries battle_entries room_entries host_entries text_of numbered word_at optional_at name_at number_in number_at natural_at wide_at flag_at text_at optional_text_at login_flags_at sentence_at pair_in pairs_of pairs_at words_in words_at
lines_with_ids_read = each_reads lines_with_ids (refl, (refl, (refl, (refl, (refl, (refl, (refl, (refl, (refl, (refl, (refl, tt)))))))))))

-- who may join, and which units are allowed
abbrev asking_lines : List (List ℕ × Request)
asking_lines =
    (codes "LOGIN Anna p 0 * L", request None (command.Login (codes "Anna") (codes "p") (pos 0) (codes "*") (codes "L") false))
    ∷ (codes "LOGIN Anna p 0 * L" ++ (9 ∷ (codes "b")), request None (command.Login (codes "Anna") (codes "p") (pos 0) (codes "*") (codes "L") false))
    ∷ (codes "LOGIN Anna p 0 * L" ++ (9 ∷ (9 ∷ (codes "b"))), request None (command.Login (codes "Anna") (codes "p") (pos 0) (codes "*") (codes "L") true))
    ∷ (codes "LOGIN Anna p 0 * L" ++ (9 ∷ (codes "0" ++ (9 ∷ (codes "a  b" ++ (9 ∷ []))))), request None (command.Login (codes "Anna") (codes "p") (pos 0) (codes "*") (codes "L") true))
    ∷ (codes "LOGIN Anna p 0 * L" ++ (9 ∷ (codes "0" ++ (9 ∷ (codes "B bb" ++ (9 ∷ (codes "b")))))), request None (command.Login (codes "Anna") (codes "p") (pos 0) (codes "*") (codes "L") false))
    ∷ (codes "JOINBATTLEACCEPT Bert more", request None (command.JoinBattleAccept (codes "Bert")))
    ∷ (codes "JOINBATTLEACCEPT", request None (command.Unread fault.MissingArgument))
    ∷ (codes "JOINBATTLEACCEPT B-t", request None (command.Unread fault.BadName))
    ∷ (codes "JOINBATTLEACCEPT B" ++ (9 ∷ (codes "t")), request None (command.Unread fault.BadByte))
    ∷ (codes "JOINBATTLEDENY Bert", request None (command.JoinBattleDeny (codes "Bert") None))
    ∷ (codes "JOINBATTLEDENY Bert ", request None (command.JoinBattleDeny (codes "Bert") (Some [])))
    ∷ (codes "JOINBATTLEDENY Bert too  late", request None (command.JoinBattleDeny (codes "Bert") (Some (codes "too  late"))))
    ∷ (codes "JOINBATTLEDENY ", request None (command.Unread fault.MissingArgument))
    ∷ (codes "JOINBATTLEDENY B-t x", request None (command.Unread fault.BadName))
    ∷ (codes "JOINBATTLEDENY Bert" ++ (9 ∷ []), request None (command.Unread fault.BadByte))
    ∷ (codes "DISABLEUNITS armcom corcom armcom", request None (command.DisableUnits (codes "armcom" ∷ codes "corcom" ∷ codes "armcom" ∷ [])))
    ∷ (codes "DISABLEUNITS ", request None (command.Unread fault.MissingArgument))
    ∷ (codes "DISABLEUNITS a" ++ (9 ∷ (codes "b")), request None (command.Unread fault.BadByte))
    ∷ (codes "ENABLEUNITS  armcom ", request None (command.EnableUnits (codes "armcom" ∷ [])))
    ∷ (codes "ENABLEUNITS", request None (command.Unread fault.MissingArgument))
    ∷ (codes "ENABLEUNITS a b" ++ (9 ∷ []), request None (command.Unread fault.BadByte))
    ∷ (codes "ENABLEALLUNITS now", request None command.EnableAllUnits)
    ∷ []

asking_lines_read : EachReads asking_lines
unfolding request_of entries battle_entries room_entries host_entries text_of numbered word_at optional_at name_at number_in number_at natural_at wide_at flag_at text_at optional_text_at login_flags_at sentence_at pair_in pairs_of pairs_at words_in words_at
asking_lines_read = each_reads asking_lines (refl, (refl, (refl, (refl, (refl, (refl, (refl, (refl, (refl, (refl, (refl, (refl, (refl, (refl, (refl, (refl, (refl, (refl, (refl, (refl, (refl, (refl, tt))))))))))))))))))))))
