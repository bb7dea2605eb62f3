-- The names of accounts, each with the number of the first account that has it.
use Rattle.std.specs.Prelude.{ℕ, List, [], ◌∷◌, ◌++◌, find, Option, option_map, is_some, if◌then◌else◌}
use Rattle.std.specs.Str.{bytes_eq}

abbrev pub Names : Type 0
Names = List (List ℕ × ℕ)

-- the number of the account of a name
abbrev pub place_of : List ℕ → Names → Option ℕ
place_of name names = option_map (λ entry. entry.1) (find (λ entry. bytes_eq name entry.0) names)

-- one name more, if it is new
abbrev pub noted : List ℕ → ℕ → Names → Names
noted name place names = if is_some (place_of name names) then names else names ++ (name, place) ∷ []
