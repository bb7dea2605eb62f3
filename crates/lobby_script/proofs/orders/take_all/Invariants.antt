use Rattle.std.proofs.Common.{ℕ, List}
use Rattle.account_book.specs.Account.{Account}
use Rattle.lobby_model.specs.declared.event.Event.{Event}
use Rattle.lobby_model.specs.Configuration.{Configuration}
use Rattle.lobby_model.specs.Schedule.{World}
use Rattle.lobby_hall.specs.Standing.{Stands}
use Rattle.lobby_script.specs.Acts.{Takes}
use Rattle.lobby_script.specs.Halls.{IsStanding, Moves}
use Rattle.lobby_script.proofs.Takings.{left_to_take}
use Rattle.lobby_script.proofs.orders.take_all.Given as goal

-- each take so far found something ready
abbrev pub invariant-loop-hall : goal.invariant-loop-hall
invariant-loop-hall l = record {
  standing : IsStanding l.hall;
  taken : (settings : Configuration) (accounts : List Account) (events : List Event) (world : World) → Stands l.initial.hall settings accounts events world → (n : ℕ) × Moves l.hall settings accounts events (Takes n world l.client);
}

abbrev pub decreases-loop-hall : goal.decreases-loop-hall
decreases-loop-hall l = left_to_take l.hall l.client
