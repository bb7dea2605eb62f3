-- A history: what all workers did, in the order in which it counts. Each entry is a worker's number and an event.
use Rattle.std.specs.Prelude.{◌≡◌, ℕ, ◌==◌, List, ◌++◌, map, filter}
use Rattle.lobby_model.specs.declared.event.Event.{Event}
use Rattle.lobby_model.specs.State.{State}
use Rattle.lobby_model.specs.History.{after}

abbrev pub Entry : Type 0
Entry = ℕ × Event

abbrev pub events_of : List Entry → List Event
events_of history = map (λ e. e.1) history

-- the plain lobby after a history
abbrev pub after_history : State → List Entry → State
after_history s history = after s (events_of history)

-- the events that bear a worker's number, in their order
abbrev pub made_by : ℕ → List Entry → List Event
made_by number history = events_of (filter (λ e. e.0 == number) history)

-- events, under a worker's number
abbrev pub under : ℕ → List Event → List Entry
under number events = map (λ e. (number, e)) events

-- the history begins with what was seen
abbrev pub Begins : List Entry → List Entry → Type 0
Begins seen history = (rest : List Entry) × (history ≡ seen ++ rest)
