-- The addresses from which a front connects, and the first value of a list that is refused.
use Rattle.std.specs.Prelude.{◌≡◌, ℕ, ◌+◌, ◌≤◌, List, [], ◌∷◌, Result, Ok, Err, MatchResult}
use Rattle.toml.specs.Data.{Items, no_items, item, Members}
use Rattle.toml_fields.specs.Fields.{◌>>=◌, list, text}
use Rattle.toml_fields.specs.declared.fault.FieldFault.{FieldFault}
use Rattle.proxy_line.specs.Words.{IsAddress}
use Rattle.proxy_line.specs.Sets.{listed}
use Rattle.proxy_line.specs.declared.proxies.Proxies as set
use Rattle.lobby_setup.specs.At.{field}
use Rattle.lobby_setup.specs.Written.{IsWritten}
use Rattle.lobby_setup.specs.declared.key.Key.TheVariants as key
use Rattle.lobby_setup.specs.declared.error.Refusal.{Refusal}
use Rattle.lobby_setup.specs.declared.error.Refusal.TheVariants.{Proxy}

-- a text writes the address at a place, counted from 1: no 64 are before it
abbrev pub IsProxy : ℕ → List ℕ → List ℕ → Type 0
IsProxy place text ip = IsAddress text ip × (place ≤ 64)

abbrev pub Addresses : Type 0
Addresses = Result (List (List ℕ)) Refusal

-- an address, and then these
abbrev pub with_first : List ℕ → Addresses → Addresses
with_first ip said = said >>= (λ ips. Ok (ip ∷ ips))

-- What some values, of which the first has this place, say: the addresses that they write, or the first value that is
-- refused
abbrev pub AreProxies : ℕ → Items → Addresses → Type 0
AreProxies place no_items said = said ≡ Ok []
AreProxies place (item value values) said =
    (first : Result (List ℕ) FieldFault) × IsWritten (IsProxy place) (text value) first
    × MatchResult first (λ ip. (rest : Addresses) × AreProxies (place + 1) values rest × (said ≡ with_first ip rest))
    (λ fault. said ≡ Err (Proxy place fault))

-- What a table says: what the values of its list say, if it has one
abbrev pub SayProxies : Members → Addresses → Type 0
SayProxies table said =
    MatchResult (field key.Proxies list no_items table) (λ values. AreProxies 1 values said) (λ refusal.
    said ≡ Err refusal)

-- what the code answers, as the addresses of the set
abbrev pub all_listed : Result set.Proxies Refusal → Addresses
all_listed (Ok proxies) = Ok (listed proxies)
all_listed (Err refusal) = Err refusal
