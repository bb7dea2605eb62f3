-- The counts of events that a pass keeps as data.
use Rattle.std.specs.Prelude.{◌≡◌, ℕ, ◌==◌, ◌<◌, ◌≤◌, List, length, min, find, Option, Some, slice_get}
use Rattle.std.specs.Option.{option_map}
use Rattle.lobby_model.specs.declared.event.Event.{Event}
use Rattle.lobby_lock.specs.declared.view.View.{View}
use Rattle.lobby_lock.specs.declared.view.Worker.{Worker}
use Rattle.lobby_lock.specs.History.{Entry}

-- a count stays at the last value
abbrev pub last_count : ℕ
last_count = 18446744073709551615

abbrev pub count_of : List Event → ℕ
count_of events = min (length events) last_count

-- how many events a history has
abbrev pub position_of : List Entry → ℕ
position_of history = min (length history) last_count

-- the worker of this number
abbrev pub worker_of : ℕ → List Worker → Option Worker
worker_of number workers = find (λ worker. worker.number == number) workers

-- a place for each number, with the count of its worker where the pass of that was taken back

pub record PlacesAre (places : List (Option ℕ)) (taken_back : List Worker) : Type 0 where
  pub all : length places ≡ 64
  pub each : (number : ℕ) → number < 64 → slice_get places number
      ≡ Some (option_map (λ worker. count_of worker.mine) (worker_of number taken_back))

-- how many events the pass's worker made, and at worker 0 the places
pub record Counts (v : View) (handed made : ℕ) (places : List (Option ℕ)) : Type 0 where
  pub few : handed ≤ 63
  pub made_is : made ≡ count_of v.worker.mine
  pub places_are : v.worker.number ≡ 0 → PlacesAre places v.taken_back
