-- What calls of the hall come to.
use Rattle.std.specs.Prelude.{List, ◌++◌}
use Rattle.account_book.specs.Account.{Account}
use Rattle.lobby_model.specs.declared.event.Event.{Event}
use Rattle.lobby_model.specs.Configuration.{Configuration}
use Rattle.lobby_model.specs.Schedule.{World}
use Rattle.lobby_hall.specs.Standing.{Kept, Stands}

-- the hall stands for the events so far and some more, which the relation allows
abbrev pub Moves : Kept → Configuration → List Account → List Event → (List Event → World → Type 0) → Type 0
Moves hall settings accounts events Gives = (here : List Event) × (new : World) × Gives here new
    × Stands hall settings accounts (events ++ here) new

-- the hall stands for something
abbrev pub IsStanding : Kept → Type 0
IsStanding hall = (settings : Configuration) × (accounts : List Account) × (events : List Event) × (world : World)
    × Stands hall settings accounts events world
