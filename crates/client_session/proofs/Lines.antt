-- When a whole line is next.
use Rattle.std.proofs.Common.{ℕ, List, refl}
use Rattle.std.specs.Prelude.{Option, Some, None, IsSome, slice_get}
use Rattle.line_framer.specs.Frames.{frames}
use Rattle.command_grammar.specs.declared.command.Request.{Request}
use Rattle.lobby_model.specs.Schedule.{line_limit}
use Rattle.client_session.specs.declared.session.Next.TheVariants.{Line}
use Rattle.client_session.specs.Serving.{Serving}
use Rattle.client_session.specs.Sessions.{Heard, NextAt, NeedsMemoryAt, NeedsMemory}
use Rattle.client_session.specs.OneSession.{IsNextOf, HasLineNext}

-- a request stands on a line
pub line_asked : (o : Option (List ℕ)) (bytes : List ℕ) (request : Request) → NextAt o bytes (Line request) → IsSome o
line_asked None bytes request h = absurd h
line_asked (Some line) bytes request h = refl

line_wanted : (o : Option (List ℕ)) → NeedsMemoryAt o → IsSome o
line_wanted None h = absurd h
line_wanted (Some line) h = refl

pub asks_line : (session : Serving) (request : Request) → IsNextOf (Some session) (Line request) → HasLineNext session
asks_line session request next = λ bytes accepted heard. line_asked (slice_get (frames bytes line_limit) accepted) bytes request (next bytes accepted heard)

pub wants_line : (session : Serving) → ((bytes : List ℕ) (accepted : ℕ) → Heard session.framed bytes accepted → NeedsMemory bytes accepted) → HasLineNext session
wants_line session wants = λ bytes accepted heard. line_wanted (slice_get (frames bytes line_limit) accepted) (wants bytes accepted heard)
