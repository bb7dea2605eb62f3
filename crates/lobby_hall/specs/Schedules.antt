-- A hall stands for a whole schedule.
use Rattle.std.specs.Prelude.{List}
use Rattle.account_book.specs.Account.{Account}
use Rattle.lobby_model.specs.declared.event.Event.{Event}
use Rattle.lobby_model.specs.declared.schedule.Step.{Step}
use Rattle.lobby_model.specs.Configuration.{Configuration}
use Rattle.lobby_model.specs.State.{empty_lobby}
use Rattle.lobby_model.specs.Schedule.{World, Gives, new_world}
use Rattle.lobby_hall.specs.Record.{Log, IsRecord}
use Rattle.lobby_hall.specs.Standing.{Kept, Stands}

-- the hall's lobby, sessions and record are those that the schedule leaves
pub record StandsFor (hall : Kept) (settings : Configuration) (accounts : List Account) (steps : List Step) : Type 0
  where
    pub events : List Event
    pub world : World
    pub gives : Gives (new_world settings accounts) steps events world
    pub stands : Stands hall settings accounts events world

-- the logs are those of the events that the schedule gives
pub record IsRecordOf (logs : List Log) (settings : Configuration) (accounts : List Account) (steps : List Step) : Type
    0 where
  pub events : List Event
  pub world : World
  pub gives : Gives (new_world settings accounts) steps events world
  pub logs_are : IsRecord logs (empty_lobby settings accounts) events
