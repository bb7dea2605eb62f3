-- What contracts see of a pass and of a hold.
use Rattle.std.specs.Prelude.{◌≡◌, ℕ, ◌+◌, ◌≤◌, Bool, true, false, cond, List, [], ◌∷◌, ◌++◌, length, Option}
use Rattle.atomic_table.specs.Seated.{TableId}
use Rattle.crossbeam_queue.specs.Passes.{Pass, view}
use Rattle.lobby_model.specs.declared.event.Event.{Event}
use Rattle.lobby_model.specs.State.{State}
use Rattle.lobby_machine.specs.Shown.{Shown}
use Rattle.lobby_lock.specs.declared.laid.Laid.{Laid}
use Rattle.lobby_model.specs.declared.event.MadeEvent.{MadeEvent}
use Rattle.lobby_lock.specs.declared.view.View.{View}
use Rattle.lobby_lock.specs.declared.view.Worker.{Worker}
use Rattle.lobby_lock.specs.History.{after_history, under}
use Rattle.lobby_lock.specs.Counts.{Counts, position_of}
use Rattle.lobby_lock.specs.Rule.{IsLaid, new_worker, with_events}
use Rattle.lobby_lock.specs.Events.{Noted, ShownKept, made_from}

-- The desk that the pass belongs to; the plain lobby with which that was opened; the lobby, with its lists of changed
-- clients, as the pass's worker last took it from the desk or left it there, or as its giver did; what the worker has
-- seen and made; how many numbers were handed out, which worker 0 alone counts; whose passes it took back, the last
-- first; and whether its holds keep their events
pub record ShownPass : Type 0 where
  pub desk : TableId
  pub start : State
  pub on_desk : Shown
  pub worker : Worker
  pub handed : ℕ
  pub taken_back : List Worker
  pub keeps : Bool

-- a hold: its pass, the lobby, and its events so far
pub record ShownHold : Type 0 where
  pub pass : ShownPass
  pub lobby : Shown
  pub events : List Event

-- a hold that is over: its pass, and those of its events that were kept
pub record ShownMade : Type 0 where
  pub pass : ShownPass
  pub events : List MadeEvent

abbrev pub shown_view : TableId → View → Bool → ShownPass
shown_view desk v keeps = record {
  desk = desk;
  start = v.start.plain;
  on_desk = v.on_desk;
  worker = v.worker;
  handed =
      v.handed;
  taken_back = v.taken_back;
  keeps = keeps;
}

abbrev pub shown_pass : Pass Laid View → Bool → ShownPass
shown_pass inner keeps = shown_view inner.table_id (view inner) keeps

abbrev pub shown_hold : Pass Laid View → Shown → Noted → ShownHold
shown_hold inner lobby noted =
    record { pass = shown_pass inner noted.kept.keeps; lobby = lobby; events = noted.events }

-- the room in which its events were kept is with them until the pass has it again
abbrev pub shown_made : ShownPass → ShownKept → ShownMade
shown_made pass kept = record { pass = record pass { keeps = kept.keeps }; events = kept.events }

-- a hold with one event more, and with the lobby as it is then
abbrev pub AddsEvent : ShownHold → ShownHold → Event → Type 0
AddsEvent old new e = new ≡ record old { lobby = new.lobby; events = old.events ++ e ∷ [] }

-- worker 0's pass of a desk that was opened with this lobby
abbrev pub first_pass : TableId → Shown → ShownPass
first_pass desk lobby = record {
  desk = desk;
  start = lobby.plain;
  on_desk = lobby;
  worker = new_worker 0 [];
  handed =
      0;
  taken_back = [];
  keeps = false;
}

-- the pass of a worker more: it has seen what the giver has, and made nothing
abbrev pub new_pass : ShownPass → ShownPass
new_pass pass = record {
  desk = pass.desk;
  start = pass.start;
  on_desk = pass.on_desk;
  worker = new_worker (pass.handed
      + 1) pass.worker.seen;
  handed = 0;
  taken_back = [];
  keeps = false;
}

-- a pass after a hold of these events, which leaves its lobby as it has it
abbrev pub pass_after : ShownHold → ShownPass
pass_after held = record held.pass { on_desk = held.lobby; worker = with_events held.pass.worker held.events }

-- what a hold keeps of its events: each, with its place in the history and what it gave; or nothing
abbrev pub made_in : ShownHold → List MadeEvent
made_in held = cond held.pass.keeps (made_from (length held.pass.worker.seen)
    (after_history held.pass.start held.pass.worker.seen) held.events) []

-- The plain lobby after all that the pass has seen, and then these events of its own
abbrev pub lobby_after : ShownPass → List Event → State
lobby_after pass events = after_history pass.start (pass.worker.seen ++ under pass.worker.number events)

-- a lobby to be laid down by one who has seen so much, and then made these events
abbrev pub IsLaidBy : View → List Event → Laid → Type 0
IsLaidBy v events = IsLaid v.start.plain (v.worker.seen ++ under v.worker.number events)

-- inside a pass: it does not hold, knows its number, counts what its view counts, and has room for the events of a hold
-- if it keeps them
pub record IsReady (inner : Pass Laid View) (number handed made : ℕ) (places : List (Option ℕ))
    (kept : ShownKept) : Type 0 where
  pub slots : inner.me.1 ≡ []
  pub alive : (view inner).alive ≡ true
  pub holds : (view inner).holds ≡ false
  pub numbered : number ≡ (view inner).worker.number
  pub below : number ≤ 63
  pub counts : handed ≡ (view inner).handed
  pub counted : Counts (view inner) handed made places
  pub empty : kept.events ≡ []

-- inside a hold: its lobby stands for the history seen and then the hold's own events, and it has the number of events
-- seen, and each of its own if it keeps them
pub record IsHolding (inner : Pass Laid View) (number handed made : ℕ) (places : List (Option ℕ)) (lobby : Shown)
    (noted : Noted) : Type 0 where
  pub slots : inner.me.1 ≡ []
  pub alive : (view inner).alive ≡ true
  pub holds : (view inner).holds ≡ true
  pub numbered : number ≡ (view inner).worker.number
  pub below : number ≤ 63
  pub counts : handed ≡ (view inner).handed
  pub counted : Counts (view inner) handed made places
  pub stands : lobby.plain ≡ lobby_after (shown_hold inner lobby noted).pass noted.events
  pub placed : noted.position ≡ position_of (view inner).worker.seen
  pub kept : noted.kept.events ≡ made_in (shown_hold inner lobby noted)
