-- Of whom a poll told.
use Rattle.std.specs.Prelude.{ℕ, List, map}
use Rattle.mio.specs.Event.{event_token}
use Rattle.mio.specs.Events.{items}
use Rattle.mio.specs.declared.event.event.Event.{Event}
use Rattle.lobby_connections.specs.declared.lookout.Lookout.{Lookout}

-- the events that the last poll told
abbrev pub told : Lookout → List Event
told lookout = items lookout.events

-- the key under which an event tells of a connection
abbrev pub key_of : Event → ℕ
key_of event = (event_token event).0

-- the keys of these events
abbrev pub keys_of : List Event → List ℕ
keys_of events = map key_of events
