use Rattle.std.proofs.Common.{take, List, []}
use Rattle.account_book.specs.Account.{Account}
use Rattle.lobby_model.specs.Configuration.{Configuration}
use Rattle.lobby_hall.specs.Schedules.{StandsFor}
use Rattle.lobby_hall.proofs.hall.take_steps.Given as goal

abbrev pub invariant-loop-step : goal.invariant-loop-step
invariant-loop-step l = (settings : Configuration) (accounts : List Account) → StandsFor l.fn.hall settings accounts []
    → StandsFor l.hall settings accounts (take l.step-index l.fn.steps)
