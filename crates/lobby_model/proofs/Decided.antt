-- What an open and a command come to, at the test that decides whether they come to anything.
use Rattle.std.proofs.Common.{◌≡◌, ℕ, ◌+◌, List, ap, Bool, true, false}
use Rattle.std.specs.Prelude.{if◌then◌else◌}
use Rattle.command_grammar.specs.declared.command.Command.{Command}
use Rattle.command_grammar.specs.declared.command.Request.{Request}
use Rattle.lobby_model.specs.declared.event.Event.TheVariants as event
use Rattle.lobby_model.specs.State.{State, hears, name_of}
use Rattle.lobby_model.specs.Outcome.{Outcome, nothing, done}
use Rattle.lobby_model.specs.Sessions.{has_place, connects}
use Rattle.lobby_model.specs.Commands.{answer}
use Rattle.lobby_model.specs.Events.{outcome}

abbrev pub opening : State → List ℕ → ℕ → Bool → Outcome
opening s ip home place = if place then done (connects (s.last_client + 1) ip home s) else nothing

abbrev pub saying : State → ℕ → Command → Bool → Outcome
saying s c command hearing = if hearing then answer s c (name_of s c) command else nothing

pub given_place : (s : State) (ip : List ℕ) (home : ℕ)
    → has_place s ≡ true → outcome s (event.Open ip home) ≡ done (connects (s.last_client + 1) ip home s)
given_place s ip home place = ap (opening s ip home) place

pub no_place : (s : State) (ip : List ℕ) (home : ℕ) → has_place s ≡ false → outcome s (event.Open ip home) ≡ nothing
no_place s ip home full = ap (opening s ip home) full

pub unheard : (s : State) (c : ℕ) (request : Request) → hears s c ≡ false → outcome s (event.Say c request) ≡ nothing
unheard s c request deaf = ap (saying s c request.command) deaf
