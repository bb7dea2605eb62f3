-- Worked examples of channels and battles with clients that are cut, computed from the definitions. A client that reads too little is
-- cut by the first event whose lines do not fit: it gets no more and says no more, but stays what it was until it is shut.
use Rattle.std.proofs.Common.{◌≡◌, ℕ, List, [], ◌∷◌, ◌++◌, refl}
use Rattle.std.specs.Prelude.{codes, map, None}
use Prim.Native.String.{String}
use Rattle.std.specs.Fmt.{digits}
use Rattle.command_grammar.specs.declared.command.Command.{Command}
use Rattle.command_grammar.specs.declared.command.Command.TheVariants as command
use Rattle.lobby_model.specs.declared.event.Event.{Event}
use Rattle.lobby_model.specs.declared.event.Event.TheVariants as event
use Rattle.lobby_model.specs.History.{after, put_in}
use Rattle.lobby_model.proofs.Fixture.{anna, bert, main, says, three, lobby, each, opens, joins}

abbrev join_main : Command
join_main = command.Join main None

-- with little room, a client that read nothing: 145 bytes wait for each when all three are in
abbrev each_gets_within : ℕ → List Event → List Event → List (List ℕ)
each_gets_within limit before events = map (put_in (after (lobby limit) before) events) (1 ∷ 2 ∷ 3 ∷ [])

-- Anna and Cleo read all. Bert has no room for the 33 bytes that his joining puts: he is in, is heard no more, and leaves when he is shut.
-- What is said to him is not refused
abbrev others_read : List Event
others_read = three ++ (event.Drain 1 1000 ∷ event.Drain 3 1000 ∷ says 1 join_main ∷ [])

abbrev bert_joins : List Event
bert_joins =
    says 2 join_main ∷ says 1 (command.Say main (codes "hi")) ∷ says 2 (command.Say main (codes "hi")) ∷ says 1 (command.SayPrivate bert (codes "x"))
    ∷ event.Shut 2 ∷ []

cut_by_joining : each_gets_within 177 others_read bert_joins ≡ each
    ("JOINED main Bert" ∷ "SAID main Anna hi" ∷ "SAYPRIVATE Bert x" ∷ "LEFT main Bert" ∷ "REMOVEUSER Bert" ∷ [])
    []
    ("REMOVEUSER Bert" ∷ [])
unfolding digits
cut_by_joining = refl

still_in_the_channel : (after (lobby 177) (others_read ++ (says 2 join_main ∷ []))).channels ≡ (main, anna ∷ bert ∷ []) ∷ []
unfolding digits
still_in_the_channel = refl

-- with one byte more he has room for that, and none for what is said next
cut_by_talk : each_gets_within 178 others_read bert_joins ≡ each
    ("JOINED main Bert" ∷ "SAID main Anna hi" ∷ "SAYPRIVATE Bert x" ∷ "LEFT main Bert" ∷ "REMOVEUSER Bert" ∷ [])
    ("JOIN main" ∷ "CLIENTS main Anna Bert" ∷ [])
    ("REMOVEUSER Bert" ∷ [])
unfolding digits
cut_by_talk = refl

-- a member that is cut is a member: the founder forces, rings and kicks it
abbrev opened : String
opened = "BATTLEOPENED 1 0 0 Anna 10.0.0.1 8452 8 0 0 123 Spring\t104.0\tComet Catcher\tAnna's game\tBA 9.46"

abbrev commands_on_cut : List Event
commands_on_cut =
    says 1 opens ∷ event.Drain 1 1000 ∷ says 2 (joins 1) ∷ says 1 (command.ForceTeamNo bert 8) ∷ says 1 (command.Ring bert)
    ∷ says 1 (command.KickFromBattle bert) ∷ says 1 (command.Ring bert) ∷ []

cut_member : each_gets_within 260 (three ++ (event.Drain 1 1000 ∷ event.Drain 3 1000 ∷ [])) commands_on_cut ≡ each
    (opened ∷ "OPENBATTLE 1" ∷ "REQUESTBATTLESTATUS" ∷ "JOINEDBATTLE 1 Bert" ∷ "CLIENTBATTLESTATUS Bert 32 0" ∷ "LEFTBATTLE 1 Bert"
    ∷ "SERVERMSG No such member" ∷ [])
    (opened ∷ [])
    (opened ∷ "JOINEDBATTLE 1 Bert" ∷ "LEFTBATTLE 1 Bert" ∷ [])
unfolding digits
cut_member = refl

-- the battle of a founder that is cut, here by the lines of its own opening, is there until that client is shut
abbrev commands_of_cut : List Event
commands_of_cut = says 1 opens ∷ says 2 (joins 1) ∷ says 1 command.LeaveBattle ∷ event.Shut 1 ∷ []

cut_founder : each_gets_within 260 (three ++ (event.Drain 2 1000 ∷ event.Drain 3 1000 ∷ [])) commands_of_cut ≡ each
    []
    (opened ∷ "JOINBATTLE 1 -1" ∷ "JOINEDBATTLE 1 Bert" ∷ "CLIENTBATTLESTATUS Anna 0 0" ∷ "REQUESTBATTLESTATUS" ∷ "BATTLECLOSED 1"
    ∷ "REMOVEUSER Anna" ∷ [])
    (opened ∷ "JOINEDBATTLE 1 Bert" ∷ "BATTLECLOSED 1" ∷ "REMOVEUSER Anna" ∷ [])
unfolding digits
cut_founder = refl
