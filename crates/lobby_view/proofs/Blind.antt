-- What happens in the lobby neither looks at clients nor changes them, save where one comes, logs in, goes or reads.
use Rattle.std.proofs.Common.{◌≡◌, ℕ, List, [], ◌∷◌, ◌++◌, refl, sym, ap, ◌∙◌, Bool, true, false}
use Rattle.std.specs.Prelude.{Option, Some, None, map}
use Rattle.std.specs.List.{AllByRecursion}
use Rattle.command_grammar.specs.declared.command.Command.{Command}
use Rattle.command_grammar.specs.declared.command.Command.TheVariants as command
use Rattle.line_words.specs.Table.{ByNumber}
use Rattle.lobby_model.specs.State.{State, Client, Battle, asked_by, battle_of}
use Rattle.lobby_model.specs.Outcome.{Happening, Outcome, Refused, Done, all_after}
use Rattle.lobby_model.specs.Battles.{drops_own, leaves_battle, leaves_own}
use Rattle.lobby_model.specs.Sessions.{is_gone, logs_out, unseen}
use Rattle.lobby_model.specs.Commands.{answer}
use Rattle.lobby_model.proofs.Inside.{IsInside, StaysInside, leaving_is_inside, answer_stays}

abbrev pub with_clients : ByNumber Client → State → State
with_clients clients s = record s { clients = clients }

-- whatever the clients are, they stay, and the rest comes out the same
abbrev pub IsBlind : Happening → Type 0
IsBlind h = (clients : ByNumber Client) (s : State) → h.after (with_clients clients s) ≡ with_clients clients (h.after s)

abbrev pub AreBlind : Outcome → Type 0
AreBlind (Refused refusal) = Unit {0}
AreBlind (Done happenings) = AllByRecursion IsBlind happenings

pub all_blind : (happenings : List Happening) → AllByRecursion IsBlind happenings → (clients : ByNumber Client) (s : State)
    → all_after (with_clients clients s) happenings ≡ with_clients clients (all_after s happenings)
all_blind [] blind clients s = refl
all_blind (h ∷ happenings) blind clients s = ap (λ t. all_after t happenings) (blind.0 clients s) ∙ all_blind happenings blind.1 clients (h.after s)

-- so clients are the same afterwards
pub clients_stay : (h : Happening) → IsBlind h → (s : State) → (h.after s).clients ≡ s.clients
clients_stay h blind s = ap (λ (t : State). t.clients) (blind s.clients s)

pub all_clients_stay : (happenings : List Happening) → AllByRecursion IsBlind happenings → (s : State) → (all_after s happenings).clients ≡ s.clients
all_clients_stay happenings blind s = ap (λ (t : State). t.clients) (all_blind happenings blind s.clients s)

-- what happens inside the lobby is blind
pub inside_is_blind : (h : Happening) → IsInside h → IsBlind h
inside_is_blind h inside clients s = inside (with_clients clients s) s ∙ ap (with_clients clients) (sym (inside s s))

inside_are_blind : (happenings : List Happening) → AllByRecursion IsInside happenings → AllByRecursion IsBlind happenings
inside_are_blind [] inside = tt
inside_are_blind (h ∷ happenings) inside = (inside_is_blind h inside.0, inside_are_blind happenings inside.1)

stays_blind : (o : Outcome) → StaysInside o → AreBlind o
stays_blind (Refused refusal) inside = tt
stays_blind (Done happenings) inside = inside_are_blind happenings inside

pub leaving_is_blind : (name : List ℕ) (id : ℕ) (battle : Battle) → IsBlind (leaves_battle name id battle)
leaving_is_blind name id battle = inside_is_blind (leaves_battle name id battle) (leaving_is_inside name id battle)

-- a log out
pub logs_out_blind : (s : State) (me : Option (List ℕ)) → AllByRecursion IsBlind (logs_out s me)
logs_out_blind s None = tt
logs_out_blind s (Some me) = ((λ clients s. refl), dropping (asked_by s me) (battle_of s me))
  where
    leaving : (own : Option (ℕ × Battle)) → AllByRecursion IsBlind (map unseen (leaves_own me own ++ is_gone me ∷ []))
    leaving None = ((λ clients s. refl), tt)
    leaving (Some e) = (leaving_is_blind me e.0 e.1, ((λ clients s. refl), tt))

    dropping : (asked own : Option (ℕ × Battle)) → AllByRecursion IsBlind (map unseen (drops_own me asked ++ (leaves_own me own ++ is_gone me ∷ [])))
    dropping None own = leaving own
    dropping (Some e) own = ((λ clients s. refl), leaving own)

-- the commands by which one comes or goes
abbrev pub changes_clients : Command → Bool
changes_clients command.Exit = true
changes_clients (command.Login name password cpu local_ip lobby authorises) = true
changes_clients command = false

-- whatever else a client says
pub answer_is_blind : (s : State) (c : ℕ) (me : Option (List ℕ)) (command : Command)
    → changes_clients command ≡ false → AreBlind (answer s c me command)
answer_is_blind s c me command.Exit e = absurd (cc)
answer_is_blind s c me (command.Login name password cpu local_ip lobby authorises) e = absurd (cc)
answer_is_blind s c None (command.MyStatus asked) e = tt
answer_is_blind s c (Some me) (command.MyStatus asked) e = ((λ clients s. refl), tt)
answer_is_blind s c me command e = stays_blind (answer s c me command) (answer_stays s c me command e)
