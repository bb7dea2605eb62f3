-- The output of a script.
use Rattle.std.specs.Prelude.{◌≡◌, ◌≢◌, ℕ, ◌+◌, ◌⊎◌, false, List, [], ◌∷◌, ◌++◌, length, take, IsTrue}
use Rattle.lobby_script.specs.declared.action.Action.{Action}
use Rattle.lobby_script.specs.Actions.{Says}
use Rattle.lobby_script.specs.Lines.{lines_of}
use Rattle.lobby_script.specs.Prepared.{nothing_set}
use Rattle.lobby_script.specs.Scene.{Scene, is_allowed, unopened}
use Rattle.lobby_script.specs.Acts.{Acts}

-- the line says an action that is allowed, which does and shows this
abbrev pub ActionPlays : Scene → List ℕ → List ℕ → Scene → Type 0
ActionPlays s line out new = (a : Action) × Says line a × IsTrue (is_allowed s a) × Acts s a out new

-- an empty line does nothing
abbrev pub LinePlays : Scene → List ℕ → List ℕ → Scene → Type 0
LinePlays s line out new = ((line ≡ []) × (out ≡ []) × (new ≡ s)) ⊎ ActionPlays s line out new

-- the line is neither empty nor an action that is allowed
abbrev pub IsBad : Scene → List ℕ → Type 0
IsBad s line = (line ≢ []) × ((a : Action) → Says line a → is_allowed s a ≡ false)

-- all these lines play one after another, with this output
abbrev pub Played : Scene → List (List ℕ) → List ℕ → Scene → Type 0
Played s [] out new = (out ≡ []) × (new ≡ s)
Played s (line ∷ lines) out new = (here : List ℕ) × (mid : Scene) × (later : List ℕ) × LinePlays s line here mid
    × Played mid lines later new × (out ≡ here ++ later)

-- these lines play, from the empty lobby with the default settings and no account on
abbrev pub PlaysTo : List (List ℕ) → List ℕ → Scene → Type 0
PlaysTo lines out end = Played (unopened nothing_set) lines out end

-- the whole script plays, with this output
abbrev pub OutputOf : List ℕ → List ℕ → Type 0
OutputOf script out = (end : Scene) × PlaysTo (lines_of script) out end

-- the script's first lines play, with this output
abbrev pub OutputOfFront : List ℕ → List ℕ → Type 0
OutputOfFront script out = (n : ℕ) × (end : Scene) × PlaysTo (take n (lines_of script)) out end

-- line k, counted from 1, is the first that is bad, and the lines before it have this output
pub record StopsAt (script : List ℕ) (k : ℕ) (out : List ℕ) : Type 0 where
  pub front : List (List ℕ)
  pub line : List ℕ
  pub behind : List (List ℕ)
  pub whole : lines_of script ≡ front ++ line ∷ behind
  pub number : k ≡ length front + 1
  pub scene : Scene
  pub plays : PlaysTo front out scene
  pub bad : IsBad scene line
