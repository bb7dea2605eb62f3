-- The schedule that the steps of a record are.
use Rattle.std.specs.Prelude.{◌≡◌, ℕ, ◌+◌, true, List, [], ◌∷◌, ◌++◌, is_some, map}
use Rattle.account_book.specs.Account.{Account}
use Rattle.command_grammar.specs.Reads.{Reads}
use Rattle.lobby_model.specs.declared.event.Event.{Event}
use Rattle.lobby_model.specs.declared.event.Event.TheVariants as event
use Rattle.lobby_model.specs.declared.schedule.Step.{Step}
use Rattle.lobby_model.specs.declared.schedule.Step.TheVariants as step
use Rattle.line_words.specs.Table.{at_number}
use Rattle.lobby_model.specs.Configuration.{Configuration}
use Rattle.lobby_model.specs.Schedule.{Gives, World, new_world}
use Rattle.lobby_model.specs.State.{State, empty_lobby}
use Rattle.lobby_model.specs.Sessions.{has_place}
use Rattle.lobby_model.specs.Next.{next}
use Rattle.record_lines.specs.Entries.{AreStepsOf}
use Rattle.record_lines.specs.Masks.{all_hidden}
use Rattle.record_lines.specs.Played.{bytes_taken}
use Rattle.record_lines.specs.Steps as said

-- the step of a schedule that the step of a record is: its label is the client's number, and it is no worker's
abbrev pub scheduled : said.Step → Step
scheduled (said.Open label ip) = step.Open ip 0
scheduled (said.Send c bytes) = step.Arrive c bytes
scheduled (said.Take c) = step.Take c
scheduled (said.Read c count) = step.Read c count
scheduled (said.Shut c) = step.Shut c

abbrev pub schedule_of : List said.Step → List Step
schedule_of = map scheduled

-- what an event gives: the number of the client that it lets in, or how many bytes it takes
abbrev pub gain_of : State → Event → ℕ
gain_of s (event.Open ip home) = s.last_client + 1
gain_of s e = bytes_taken s e

-- the event happens: who comes has a place; who says something that was read of a line, reads or goes, is there
abbrev pub Happens : State → Event → Type 0
Happens s (event.Open ip home) = has_place s ≡ true
Happens s (event.Say c request) =
    (is_some (at_number s.clients c) ≡ true) × ((line : List ℕ) × Reads line request)
Happens s (event.Drain c n) = is_some (at_number s.clients c) ≡ true
Happens s (event.Shut c) = is_some (at_number s.clients c) ≡ true

-- so does each event of a history
abbrev pub AllHappen : State → List Event → Type 0
AllHappen s [] = Unit {0}
AllHappen s (e ∷ history) = Happens s e × AllHappen (next s e) history

-- the steps by which the events of a history are played, private talk and all
abbrev pub AreAllSteps : State → List Event → List said.Step → Type 0
AreAllSteps s [] steps = steps ≡ []
AreAllSteps s (e ∷ history) steps =
    (here : List said.Step) × (later : List said.Step) × AreStepsOf s.accounts true (gain_of s e) e here
    × AreAllSteps (next s e) history later × (steps ≡ here ++ later)

-- the schedule of a record of this history, of which each event happened, gives these events
pub record IsReplay (settings : Configuration) (accounts : List Account) (history events : List Event) : Type 0 where
  pub steps : List said.Step
  pub world : World
  pub happened : AllHappen (empty_lobby settings accounts) history
  pub are_steps : AreAllSteps (empty_lobby settings accounts) history steps
  pub gives : Gives (new_world settings (all_hidden accounts)) (schedule_of steps) events world
