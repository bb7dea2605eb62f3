-- Where a step may ask for memory.
use Rattle.std.proofs.Common.{◌≡◌, ℕ, true, ◌||◌, List, refl, sym}
use Rattle.std.specs.Prelude.{Option, Some, None, Result, Ok, Err, OnErr, is_some, slice_get}
use Rattle.line_framer.specs.Frames.{frames, is_spoilt}
use Rattle.command_grammar.specs.declared.command.Request.{Request}
use Rattle.lobby_model.specs.Schedule.{line_limit}
use Rattle.client_session.specs.declared.session.Next.TheVariants.{Line, Spoilt}
use Rattle.client_session.specs.OneSession.{IsNextOf, IsReady}
use Rattle.client_session.specs.Serving.{Serving}
use Rattle.client_session.specs.Sessions.{NextAt}

pub always_err : {A E : Type 0} (r : Result A E) {P : Type 0} → P → OnErr r P
always_err (Ok x) p = tt
always_err (Err e) p = p

spoilt : (o : Option (List ℕ)) (bytes : List ℕ) → NextAt o bytes Spoilt → true ≡ (is_some o || is_spoilt bytes line_limit)
spoilt None bytes h = sym h
spoilt (Some line) bytes h = absurd h

asked : (o : Option (List ℕ)) (bytes : List ℕ) (request : Request) → NextAt o bytes (Line request) → true ≡ (is_some o || is_spoilt bytes line_limit)
asked None bytes request h = absurd h
asked (Some line) bytes request h = refl

pub spoilt_ready : (session : Option Serving) → IsNextOf session Spoilt → IsReady session true
spoilt_ready None next = absurd cc
spoilt_ready (Some session) next = λ bytes accepted heard.
    spoilt (slice_get (frames bytes line_limit) accepted) bytes (next bytes accepted heard)

pub line_ready : (session : Option Serving) (request : Request) → IsNextOf session (Line request) → IsReady session true
line_ready None request next = absurd cc
line_ready (Some session) request next = λ bytes accepted heard.
    asked (slice_get (frames bytes line_limit) accepted) bytes request (next bytes accepted heard)
