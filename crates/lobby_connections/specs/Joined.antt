-- Whose turns share holds of the lobby.
use Rattle.std.specs.Prelude.{ℕ, List, take}
use Rattle.lobby_connections.specs.declared.together.Together.{Together}

-- the keys of those who joined and had no turn yet, in the order in which they joined
abbrev pub keys_in : Together → List ℕ
keys_in together = take together.count together.keys
