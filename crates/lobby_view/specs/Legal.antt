-- What can come to a lobby: legal events and steps.
use Rattle.std.specs.Prelude.{◌≡◌, ℕ, ◌≤◌, List, length}
use Rattle.std.specs.List.{AllByRecursion}
use Rattle.command_grammar.specs.Reads.{Reads}
use Rattle.lobby_model.specs.declared.event.Event.{Event}
use Rattle.lobby_model.specs.declared.event.Event.TheVariants as event
use Rattle.lobby_model.specs.declared.schedule.Step.{Step}
use Rattle.lobby_model.specs.declared.schedule.Step.TheVariants as step
use Rattle.lobby_model.specs.Schedule.{line_limit}

-- from an address of four bytes, served by one of 64 workers
abbrev pub IsLegalOpen : List ℕ → ℕ → Type 0
IsLegalOpen ip home = (length ip ≡ 4) × AllByRecursion (λ n. n ≤ 255) ip × (home ≤ 63)

-- a request is what a line of at most 8,192 bytes reads as
abbrev pub IsLegal : Event → Type 0
IsLegal (event.Open ip home) = IsLegalOpen ip home
IsLegal (event.Say c request) = (line : List ℕ) × Reads line request × (length line ≤ line_limit)
IsLegal (event.Shut c) = Unit {0}
IsLegal (event.Drain c n) = Unit {0}

abbrev pub IsLegalHistory : List Event → Type 0
IsLegalHistory history = AllByRecursion IsLegal history

abbrev pub IsLegalStep : Step → Type 0
IsLegalStep (step.Open ip home) = IsLegalOpen ip home
IsLegalStep (step.Arrive c bytes) = Unit {0}
IsLegalStep (step.Take c) = Unit {0}
IsLegalStep (step.Read c n) = Unit {0}
IsLegalStep (step.Shut c) = Unit {0}

abbrev pub IsLegalSchedule : List Step → Type 0
IsLegalSchedule steps = AllByRecursion IsLegalStep steps
