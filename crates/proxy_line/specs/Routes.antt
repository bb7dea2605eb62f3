-- From where to where a connection goes: SOURCE DESTINATION SOURCE_PORT DESTINATION_PORT.
use Rattle.std.specs.Prelude.{◌≡◌, ℕ, List, ◌∷◌, ◌++◌}
use Rattle.proxy_line.specs.Words.{IsAddress, IsPort}

-- an address, a space, and the rest
abbrev pub LeadsWithAddress : List ℕ → List ℕ → List ℕ → Type 0
LeadsWithAddress text ip rest = (host : List ℕ) × (text ≡ host ++ 32 ∷ rest) × IsAddress host ip

abbrev pub IsSomePort : List ℕ → Type 0
IsSomePort text = (number : ℕ) × IsPort text number

-- two ports with a space between them
abbrev pub ArePorts : List ℕ → Type 0
ArePorts text = (source destination : List ℕ) × (text ≡ source ++ 32 ∷ destination) × IsSomePort source
    × IsSomePort destination

abbrev pub IsRoute : List ℕ → List ℕ → Type 0
IsRoute route source =
    (rest destination ports : List ℕ) × LeadsWithAddress route source rest × LeadsWithAddress rest destination ports
    × ArePorts ports
