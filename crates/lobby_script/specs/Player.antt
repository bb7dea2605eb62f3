-- What a player stands for.
use Rattle.std.specs.Prelude.{◌≡◌, ℕ, false, List, Option, Some, None, IsTrue}
use Rattle.lobby_hall.specs.Standing.{Kept, Stands}
use Rattle.lobby_script.specs.declared.action.Action.{Action}
use Rattle.lobby_script.specs.declared.player.Player.{Player}
use Rattle.lobby_script.specs.Prepared.{Prepared}
use Rattle.lobby_script.specs.Scene.{Scene, unopened, has_no_label, is_allowed}
use Rattle.lobby_script.specs.Acts.{Acts}

-- there is a hall from the first open on; until then there is what it will be opened with
abbrev pub HallStands : Option Kept → Prepared → Scene → Type 0
HallStands None setup scene = scene ≡ unopened setup
HallStands (Some hall) setup scene = Stands hall scene.prepared.settings scene.prepared.accounts scene.events
    scene.world × (has_no_label scene.labels ≡ false)

pub record IsAt (player : Player) (scene : Scene) : Type 0 where
  pub hall : HallStands player.hall player.setup scene
  pub labels : player.labels.entries ≡ scene.labels

abbrev pub IsSomewhere : Player → Type 0
IsSomewhere player = (scene : Scene) × IsAt player scene

-- the action was allowed, and the player is where it leads
abbrev pub Performed : Player → Scene → Action → List ℕ → Type 0
Performed player scene a out = IsTrue (is_allowed scene a) × ((new : Scene) × Acts scene a out new × IsAt player new)
