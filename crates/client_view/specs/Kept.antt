-- What is kept of a login, and of what came before it.
use Rattle.std.specs.Prelude.{ℕ, List, [], Option, Some, None}
use Rattle.lobby_view.specs.View.{View}
use Rattle.noted_map.specs.Undoable.{Undoable}

-- no name before a login
abbrev pub own_name : Option (List ℕ) → List ℕ
own_name None = []
own_name (Some name) = name

-- what was known before, of an earlier login, if one is kept, and of this one
abbrev pub first_before : Option (Undoable View) → Undoable View → View
first_before None known = known.before
first_before (Some earlier) known = earlier.before
