-- The events of a hold, and what is kept of them for a record.
use Rattle.std.specs.Prelude.{ℕ, ◌+◌, Bool, cond, List, [], ◌∷◌, ◌++◌, length, min}
use Rattle.command_grammar.specs.declared.command.Request.{Request}
use Rattle.lobby_model.specs.declared.event.Event.{Event}
use Rattle.lobby_model.specs.declared.event.Event.TheVariants as event
use Rattle.lobby_model.specs.State.{State}
use Rattle.lobby_model.specs.Next.{next}
use Rattle.lobby_machine.specs.Shown.{unread_of}
use Rattle.lobby_lock.specs.declared.event_log.Kind.{Kind}
use Rattle.lobby_lock.specs.declared.event_log.Kind.TheVariants as kind
use Rattle.lobby_model.specs.declared.event.MadeEvent.{MadeEvent}
use Rattle.lobby_lock.specs.Counts.{last_count}

-- what an event gave at once: an open the number of its client, a drain how many bytes
abbrev pub gain_of : State → Event → ℕ
gain_of s (event.Open ip home) = s.last_client + 1
gain_of s (event.Say c request) = 0
gain_of s (event.Shut c) = 0
gain_of s (event.Drain c n) = min (length (unread_of s c)) n

-- an event behind so many others, with what it gave
abbrev pub made_behind : ℕ → Event → ℕ → MadeEvent
made_behind before e gain = record { place = min before last_count; event = e; gain = gain }

-- these events, made one after another behind so many others, from this lobby on
abbrev pub made_from : ℕ → State → List Event → List MadeEvent
made_from before s [] = []
made_from before s (e ∷ es) = made_behind before e (gain_of s e) ∷ made_from (before + 1) (next s e) es

-- Whether the events of a hold are kept, and those that are
pub record ShownKept : Type 0 where
  pub keeps : Bool
  pub events : List MadeEvent

abbrev pub none_yet : Bool → ShownKept
none_yet keeps = record { keeps = keeps; events = [] }

abbrev pub with_kept : ShownKept → MadeEvent → ShownKept
with_kept kept made = record kept { events = cond kept.keeps (kept.events ++ made ∷ []) kept.events }

-- an event as a hold notes it: what it is, and the request of a line
abbrev pub event_of : Kind × Request → Event
event_of (kind.Open ip home, request) = event.Open ip home
event_of (kind.Say client, request) = event.Say client request
event_of (kind.Shut client, request) = event.Shut client
event_of (kind.Drain client count, request) = event.Drain client count

-- What a hold notes: how many events the history has before its own, these, and what is kept of them
pub record Noted : Type 0 where
  pub position : ℕ
  pub events : List Event
  pub kept : ShownKept

-- one event more, which gave this
abbrev pub with_event : Noted → Event → ℕ → Noted
with_event noted e gain = record noted {
  events = noted.events ++ e ∷ [];
  kept = with_kept noted.kept (made_behind (noted.position + length noted.events) e gain);
}
