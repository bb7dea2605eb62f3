-- Where a step may ask for memory: only where it does something.
use Rattle.std.specs.Prelude.{◌≡◌, ℕ, ◌<◌, true, false, List, length, Option, Some, None, IsSome}
use Rattle.line_words.specs.Table.{at_number}
use Rattle.lobby_model.specs.declared.schedule.Step.{Step}
use Rattle.lobby_model.specs.declared.schedule.Step.TheVariants as step
use Rattle.lobby_model.specs.Sessions.{has_place}
use Rattle.client_session.specs.OneSession.{IsReady}
use Rattle.client_session.specs.Serving.{Serving}
use Rattle.lobby_hall.specs.Standing.{Kept, session_at}

-- there are bytes, and a session that met no spoilt place
abbrev pub TakesIn : Option Serving → List ℕ → Type 0
TakesIn None piece = ⊥
TakesIn (Some session) piece = (session.framed.spoilt ≡ false) × (0 < length piece)

-- an open is let in, bytes are taken in, a whole line or a spoilt place is next, the client is open
abbrev pub MayNeed : Kept → Step → Type 0
MayNeed hall (step.Open ip home) = has_place hall.lobby ≡ true
MayNeed hall (step.Arrive c bytes) = TakesIn (session_at hall.sessions c) bytes
MayNeed hall (step.Take c) = IsReady (session_at hall.sessions c) true
MayNeed hall (step.Read c n) = IsSome (at_number hall.lobby.clients c)
MayNeed hall (step.Shut c) = IsSome (at_number hall.lobby.clients c)
