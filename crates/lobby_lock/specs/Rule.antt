-- The rule of the desk: there is one history. Each pass has seen a beginning of it, and it has of each worker just the
-- events that the worker made.
use Rattle.std.specs.Prelude.{◌≡◌, ◌≢◌, ◌⊎◌, ℕ, ◌+◌, ◌≤◌, true, false, List, [], ◌∷◌, ◌++◌}
use Rattle.std.specs.List.{AllByRecursion, AllPairs}
use mathlib.Core.Option.{some}
use lib.ListN.{get_elem?}
use Rattle.lobby_model.specs.declared.event.Event.{Event}
use Rattle.lobby_model.specs.Configuration.{configuration}
use Rattle.lobby_model.specs.State.{State, empty_lobby}
use Rattle.lobby_machine.specs.Shown.{Shown}
use Rattle.lobby_lock.specs.declared.laid.Laid.{Laid}
use Rattle.lobby_lock.specs.declared.view.View.{View}
use Rattle.lobby_lock.specs.declared.view.Worker.{Worker}
use Rattle.lobby_lock.specs.History.{Entry, after_history, made_by, under, Begins}
use Rattle.lobby_lock.specs.Counts.{position_of}

-- It has seen a beginning of the history; the events of the history under its number are its own, and so are those of
-- what it has seen
pub record IsTold (history : List Entry) (worker : Worker) : Type 0 where
  pub begins : Begins worker.seen history
  pub whole : made_by worker.number history ≡ worker.mine
  pub known : made_by worker.number worker.seen ≡ worker.mine

-- no worker of the one list bears the number of one of the other
abbrev pub AreApart : List Worker → List Worker → Type 0
AreApart workers others = AllByRecursion (λ worker.
    AllByRecursion (λ other. worker.number ≢ other.number) others) workers

-- what is true of one pass, where so many numbers were handed out: one that holds has seen the whole history, and none
-- is kept twice
pub record Fits (start : State) (history : List Entry) (handed : ℕ) (v : View) : Type 0 where
  pub starts : v.start.plain ≡ start
  pub told : IsTold history v.worker
  pub numbered : v.worker.number ≤ handed
  pub counts : v.worker.number ≡ 0 → v.handed ≡ handed
  pub saw_all : v.holds ≡ true → v.worker.seen ≡ history
  pub taken_back : AllByRecursion (λ w. IsTold history w × (w.number ≤ handed)) v.taken_back
  pub once : AllPairs (λ worker other. worker.number ≢ other.number) v.taken_back

-- what is true of two passes: no number is borne or kept twice, nor borne after its pass was taken back, and at most
-- one holds
pub record Meets (j k : ℕ) (v w : View) : Type 0 where
  pub apart : v.worker.number ≡ w.worker.number → j ≡ k
  pub gone : AllByRecursion (λ worker. worker.number ≢ w.worker.number) v.taken_back
  pub kept : j ≢ k → AreApart v.taken_back w.taken_back
  pub one : v.holds ≡ true → w.holds ≡ true → j ≡ k

abbrev pub IsAlive : List View → ℕ → View → Type 0
IsAlive views k v = (get_elem? views k ≡ some v) × (v.alive ≡ true)

abbrev pub SomeoneHolds : List View → Type 0
SomeoneHolds views = (k : ℕ) × (v : View) × IsAlive views k v × (v.holds ≡ true)

abbrev pub NobodyHolds : List View → Type 0
NobodyHolds views = (k : ℕ) (v : View) → IsAlive views k v → v.holds ≡ false

-- the lobby stands for the plain lobby after the history, and with it lies how many events that has
abbrev pub IsLaid : State → List Entry → Laid → Type 0
IsLaid start history x = (x.lobby.plain ≡ after_history start history) × (x.position ≡ position_of history)

-- the place has one lobby, laid there after the history
abbrev pub IsFull : State → List Entry → List Laid → Type 0
IsFull start history items = (x : Laid) × (items ≡ x ∷ []) × IsLaid start history x

-- the place is full exactly when nobody holds
abbrev pub PlaceIs : State → List Entry → List Laid → List View → Type 0
PlaceIs start history items views = ((items ≡ []) × SomeoneHolds views)
    ⊎ (IsFull start history items × NobodyHolds views)

pub record OneHistory (items : List Laid) (views : List View) : Type 0 where
  pub start : State
  pub history : List Entry
  pub handed : ℕ
  pub fits : (k : ℕ) (v : View) → IsAlive views k v → Fits start history handed v
  pub meets : (j k : ℕ) (v w : View) → IsAlive views j v → IsAlive views k w → Meets j k v w
  pub numbers : AllByRecursion (λ e. e.0 ≤ handed) history
  pub place : PlaceIs start history items views

-- ---- what the steps make of a view

-- of a desk that was not opened yet
abbrev pub no_lobby : Shown
no_lobby = record { plain = empty_lobby (configuration [] [] 0 0 [] 0) []; dirty = []; told = 0 }

abbrev pub new_worker : ℕ → List Entry → Worker
new_worker number seen = record { number = number; seen = seen; mine = [] }

-- who made the place holds what is to be put into it
abbrev pub first_view : View
first_view = record {
  alive = true;
  holds = true;
  start = no_lobby;
  on_desk = no_lobby;
  worker = new_worker 0 [];
  handed = 0;
  taken_back = [];
}

abbrev pub spent_view : View
spent_view = record {
  alive = false;
  holds = false;
  start = no_lobby;
  on_desk = no_lobby;
  worker = new_worker 0 [];
  handed = 0;
  taken_back = [];
}

-- the lobby is first put in
abbrev pub opened : View → Laid → View
opened v x = record v { start = x.lobby; on_desk = x.lobby; holds = false }

-- the worker made these events, after all that it had seen
abbrev pub with_events : Worker → List Event → Worker
with_events worker events = record worker {
  seen = worker.seen ++ under worker.number events;
  mine = worker.mine
      ++ events;
}

-- a hold of these events ends, and leaves this lobby
abbrev pub gave : View → Laid → List Event → View
gave v x events = record v { on_desk = x.lobby; worker = with_events v.worker events; holds = false }

abbrev pub giver : View → View
giver v = record v { handed = v.handed + 1 }

abbrev pub newcomer : View → View
newcomer v = record {
  alive = true;
  holds = false;
  start = v.start;
  on_desk = v.on_desk;
  worker = new_worker (v.handed
      + 1) v.worker.seen;
  handed = 0;
  taken_back = [];
}

abbrev pub with_taken_back : View → View → View
with_taken_back v w = record v { taken_back = w.worker ∷ v.taken_back }

-- ---- what the steps tell

-- the same worker has now seen so much
abbrev pub seen_by : Worker → List Entry → Worker
seen_by worker seen = record worker { seen = seen }

-- a take: the whole history was seen, the worker's events in it are its own, as they were in what it had seen, and the
-- lobby found was laid there after it
pub record Took (v : View) (x : Laid) (w : View) : Type 0 where
  pub same : w ≡ record v { on_desk = x.lobby; worker = seen_by v.worker w.worker.seen; holds = true }
  pub later : Begins v.worker.seen w.worker.seen
  pub own : made_by v.worker.number w.worker.seen ≡ v.worker.mine
  pub known : made_by v.worker.number v.worker.seen ≡ v.worker.mine
  pub laid : IsLaid v.start.plain w.worker.seen x

-- The lobby is taken for good: besides, the history has of each worker whose pass was taken back just the events that
-- it made, and none under a number that was not handed out
pub record Closed (v : View) (x : Laid) (w : View) : Type 0 where
  pub took : Took v x w
  pub taken_back : AllByRecursion (λ worker. made_by worker.number w.worker.seen ≡ worker.mine) v.taken_back
  pub numbers : v.worker.number ≡ 0 → AllByRecursion (λ e. e.0 ≤ v.handed) w.worker.seen

-- one worker has seen all that the other has, and in it each worker's events are just those that it made
pub record Covers (longer shorter : Worker) : Type 0 where
  pub begins : Begins shorter.seen longer.seen
  pub own : made_by longer.number longer.seen ≡ longer.mine
  pub others : made_by shorter.number longer.seen ≡ shorter.mine

abbrev pub Agree : Worker → Worker → Type 0
Agree a b = Covers a b ⊎ Covers b a

-- a worker that ended, and the one that took its pass back: their histories agree, and its number was handed out
pub record Ended (v : View) (worker : Worker) : Type 0 where
  pub agree : Agree v.worker worker
  pub apart : worker.number ≢ v.worker.number
  pub handed_out : v.worker.number ≡ 0 → worker.number ≤ v.handed

-- so much is known of the worker whose pass was taken back last
abbrev pub LastEnded : View → List Worker → Type 0
LastEnded v [] = Unit {0}
LastEnded v (worker ∷ others) = Ended v worker
