-- What becomes of one client's session, if it has one.
use Rattle.std.specs.Prelude.{◌≡◌, ℕ, ◌+◌, Bool, false, List, ◌++◌, Option, Some, None, IsSome, slice_get}
use Rattle.line_framer.specs.Frames.{frames}
use Rattle.line_framer.specs.Framed.{next_line}
use Rattle.lobby_model.specs.Schedule.{line_limit}
use Rattle.client_session.specs.declared.session.Next.{Next}
use Rattle.client_session.specs.declared.session.Next.TheVariants.{Nothing}
use Rattle.client_session.specs.Serving.{Serving}
use Rattle.client_session.specs.Sessions.{Heard, IsNext, has_next}

-- it heard the piece too
abbrev pub Fed : Option Serving → Option Serving → List ℕ → Type 0
Fed None new piece = new ≡ None
Fed (Some old) new piece = (session : Serving) × (new ≡ Some session)
    × ((bytes : List ℕ) (accepted : ℕ) → Heard old.framed bytes accepted
    → Heard session.framed (bytes ++ piece) accepted)

-- its next line was accepted; where none is next, it is as before
pub record AcceptsNext (old new : Serving) : Type 0 where
  pub client : new.client ≡ old.client
  pub line : IsSome (next_line old.framed) → (bytes : List ℕ) (accepted : ℕ) → Heard old.framed bytes accepted
      → Heard new.framed bytes (accepted + 1)
  pub none : next_line old.framed ≡ None → new ≡ old

abbrev pub Accepted : Option Serving → Option Serving → Type 0
Accepted None new = new ≡ None
Accepted (Some old) new = (session : Serving) × (new ≡ Some session) × AcceptsNext old session

-- a whole line is next
abbrev pub HasLineNext : Serving → Type 0
HasLineNext session = (bytes : List ℕ) (accepted : ℕ) → Heard session.framed bytes accepted
    → IsSome (slice_get (frames bytes line_limit) accepted)

-- what it asks next
abbrev pub IsNextOf : Option Serving → Next → Type 0
IsNextOf None next = next ≡ Nothing
IsNextOf (Some session) next = (bytes : List ℕ) (accepted : ℕ) → Heard session.framed bytes accepted
    → IsNext bytes accepted next

-- whether something is next
abbrev pub IsReady : Option Serving → Bool → Type 0
IsReady None ready = ready ≡ false
IsReady (Some session) ready = (bytes : List ℕ) (accepted : ℕ) → Heard session.framed bytes accepted
    → ready ≡ has_next bytes accepted
