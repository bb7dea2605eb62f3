-- What a hall stands for: the world that a schedule leaves, and the record of its events.
use Rattle.std.specs.Prelude.{◌≡◌, ℕ, ◌≤◌, ◌<◌, Bool, ◌&&◌, true, false, List, ◌++◌, length, Option, Some, None}
use Rattle.account_book.specs.Account.{Account}
use Rattle.lobby_model.specs.declared.event.Event.{Event}
use Rattle.lobby_model.specs.declared.schedule.Step.{Step}
use Rattle.lobby_model.specs.declared.schedule.Step.TheVariants as step
use Rattle.lobby_model.specs.Configuration.{Configuration}
use Rattle.lobby_model.specs.State.{State, empty_lobby}
use Rattle.lobby_model.specs.History.{after}
use Rattle.lobby_model.specs.Schedule.{World, Input, input, input_of, is_open, StepGives}
use Rattle.lobby_hall.specs.ByClient.{of_client}
use Rattle.lobby_hall.specs.Record.{Log, IsRecord}
use Rattle.client_session.specs.Serving.{Serving}
use Rattle.client_session.specs.Sessions.{Heard, has_next}

-- What a contract sees of a hall: the plain lobby, what is kept of the bytes of each client that was ever opened
-- (nothing, once it is removed), and the record of the events so far
pub record Kept : Type 0 where
  pub lobby : State
  pub sessions : List (Option Serving)
  pub record_so_far : List Log

abbrev pub session_of : Option (Option Serving) → Option Serving
session_of None = None
session_of (Some session) = session

abbrev pub session_at : List (Option Serving) → ℕ → Option Serving
session_at sessions c = session_of (of_client sessions c)

-- a client that is open has a session, which heard its bytes
abbrev pub SessionOf : Option Serving → Bool → Input → Type 0
SessionOf None is_there given = is_there ≡ false
SessionOf (Some session) is_there given = (is_there ≡ true) × Heard session.framed given.bytes given.taken

pub record Stands (hall : Kept) (settings : Configuration) (accounts : List Account) (events : List Event)
    (world : World) : Type 0 where
  pub lobby : hall.lobby ≡ world.lobby
  pub history : world.lobby ≡ after (empty_lobby settings accounts) events
  pub record_is : IsRecord hall.record_so_far (empty_lobby settings accounts) events
  pub sessions : (c : ℕ) → SessionOf (session_at hall.sessions c) (is_open world c) (input world c)
  pub unheard : (c : ℕ) → world.lobby.last_client < c → input world c ≡ input_of None
  pub one_session_each : length hall.sessions ≡ world.lobby.last_client
  pub one_log_each : length hall.record_so_far ≡ world.lobby.last_client

-- after one further step the hall stands for what that step gives
abbrev pub StandsAfter : Kept → Configuration → List Account → List Event → World → Step → Type 0
StandsAfter hall settings accounts events world s =
    (here : List Event) × (new : World) × StepGives world s here new
    × Stands hall settings accounts (events ++ here) new

-- whatever world the old hall stood for, the new one stands for what the step gives
abbrev pub TakesStep : Kept → Kept → Step → Type 0
TakesStep old new s = (settings : Configuration) (accounts : List Account) (events : List Event) (world : World)
    → Stands old settings accounts events world → StandsAfter new settings accounts events world s

-- it is open, and a whole line or a spoilt place is next
abbrev pub is_ready : World → ℕ → Bool
is_ready w c = is_open w c && has_next (input w c).bytes (input w c).taken

-- the workers are numbered 0 to 63
abbrev pub HasHome : Step → Type 0
HasHome (step.Open ip home) = home ≤ 63
HasHome (step.Arrive c bytes) = Unit {0}
HasHome (step.Take c) = Unit {0}
HasHome (step.Read c n) = Unit {0}
HasHome (step.Shut c) = Unit {0}
