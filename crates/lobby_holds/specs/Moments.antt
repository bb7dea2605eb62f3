-- What a worker did in a part of the history: its events, each with the plain lobby that it met.
use Rattle.std.specs.Prelude.{ℕ, zero, suc, ◌+◌, Bool, false, ◌==◌, if◌then◌else◌, List, [], ◌∷◌, flat_map}
use Rattle.std.specs.List.{list_any}
use Rattle.command_grammar.specs.declared.command.Request.{Request}
use Rattle.lobby_model.specs.declared.event.Event.{Event}
use Rattle.lobby_model.specs.declared.event.Event.TheVariants as event
use Rattle.lobby_model.specs.State.{State}
use Rattle.lobby_model.specs.Next.{next, taken_by}
use Rattle.lobby_model.specs.Touched.{touches}
use Rattle.lobby_machine.specs.Shown.{is_finished}
use Rattle.lobby_machine.specs.Work.{told_on, work}
use Rattle.lobby_lock.specs.History.{Entry}

pub record Moment : Type 0 where
  pub met : State
  pub event : Event

abbrev pub moment : State → Event → Moment
moment s e = record { met = s; event = e }

-- the events of a history from a state on that bear a worker's number
abbrev pub moments : ℕ → State → List Entry → List Moment
moments number s [] = []
moments number s (e ∷ history) =
    if e.0 == number then moment s e.1 ∷ moments number (next s e.1) history else moments number (next s e.1) history

-- the requests that were said to the lobby
abbrev pub asked : Event → List Request
asked (event.Say c request) = request ∷ []
asked (event.Open ip home) = []
asked (event.Shut c) = []
asked (event.Drain c n) = []

abbrev pub requests : List Moment → List Request
requests turn = flat_map (λ m. asked m.event) turn

-- the clients for whom it drained into an empty slice, which asks whether anything will ever come of them
abbrev pub questioned : Event → List ℕ
questioned (event.Drain c zero) = c ∷ []
questioned (event.Drain c (suc n)) = []
questioned (event.Open ip home) = []
questioned (event.Say c request) = []
questioned (event.Shut c) = []

abbrev pub questions : List Moment → List ℕ
questions turn = flat_map (λ m. questioned m.event) turn

-- the bytes that were drained for client c
abbrev pub drained_for : ℕ → List Moment → List ℕ
drained_for c turn = flat_map (λ m. taken_by m.met m.event c) turn

-- whether clients of this worker gained bytes or were cut
abbrev pub touched : List Moment → ℕ → Bool
touched turn home = list_any (λ m. touches m.met m.event home) turn

-- how much work they were
abbrev pub work_of : List Moment → ℕ
work_of [] = 0
work_of (m ∷ turn) = work m.met m.event + work_of turn

-- what a count of what was told comes to behind them
abbrev pub told_behind : ℕ → List Moment → ℕ
told_behind told [] = told
told_behind told (m ∷ turn) = told_behind (told_on told m.met m.event) turn

-- whether a drain said that nothing will ever come of its client
abbrev pub tells_end : State → Event → Bool
tells_end s (event.Drain c n) = is_finished (next s (event.Drain c n)) c
tells_end s (event.Open ip home) = false
tells_end s (event.Say c request) = false
tells_end s (event.Shut c) = false

abbrev pub told_end : List Moment → Bool
told_end turn = list_any (λ m. tells_end m.met m.event) turn
