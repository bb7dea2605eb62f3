-- The lines of a record as steps of a schedule.
use Rattle.std.specs.Prelude.{◌≡◌, ℕ, List, [], ◌∷◌}
use Rattle.lobby_model.specs.declared.schedule.Step.{Step}
use Rattle.lobby_model.specs.declared.schedule.Step.TheVariants as step
use Rattle.lobby_script.specs.Actions.{Says}
use Rattle.lobby_script.specs.declared.action.Action.TheVariants as action
use Rattle.lobby_script.specs.declared.action.Order.{Order}
use Rattle.lobby_script.specs.declared.action.Order.TheVariants as order
use Rattle.record_play.specs.declared.file.RecordLine.{RecordLine}

-- the step of a script with the number of its client for a label
abbrev pub SaysStep : List ℕ → Step → Type 0
SaysStep line (step.Open ip home) = (client : ℕ) × Says line (action.Open client ip) × (home ≡ 0)
SaysStep line (step.Arrive c bytes) = Says line (action.Client c (order.Send bytes))
SaysStep line (step.Take c) = Says line (action.Client c order.Take)
SaysStep line (step.Read c n) = Says line (action.Client c (order.Read n))
SaysStep line (step.Shut c) = Says line (action.Client c order.Shut)

-- the step of an order for the client of this number; no other order stands in a record
abbrev pub IsOrdered : ℕ → Order → Step → Type 0
IsOrdered c (order.Send bytes) s = s ≡ step.Arrive c bytes
IsOrdered c order.Take s = s ≡ step.Take c
IsOrdered c order.All s = ⊥
IsOrdered c (order.Read n) s = s ≡ step.Read c n
IsOrdered c order.Shut s = s ≡ step.Shut c
IsOrdered c order.Show s = ⊥

-- each line says its step
abbrev pub SayAll : List RecordLine → List Step → Type 0
SayAll [] steps = steps ≡ []
SayAll (l ∷ lines) [] = ⊥
SayAll (l ∷ lines) (s ∷ steps) = SaysStep l.step.now s × SayAll lines steps
