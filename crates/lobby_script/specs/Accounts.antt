-- How a script writes an account.
use Rattle.std.specs.Prelude.{◌≡◌, ℕ, ◌^◌, ◌<◌, ◌⊎◌, true, false, List, ◌∷◌, ◌++◌, codes, decimal}
use Rattle.account_book.specs.Account.{Account, is_sound}
use Rattle.proxy_line.specs.Words.{PartedAt, LeadsWith}

-- a rank, and a country behind one space; without it the country is not known
abbrev pub IsRankAndCountry : List ℕ → ℕ → List ℕ → Type 0
IsRankAndCountry text rank country = (rank < 2 ^ 8)
    × (((text ≡ decimal rank) × (country ≡ codes "??")) ⊎ (text ≡ decimal rank ++ 32 ∷ country))

-- name, word of the password, number, and then rank and country, parted by one space; neither a moderator's nor a
-- program's
pub record HasFields (text : List ℕ) (account : Account) : Type 0 where
  pub behind_name : List ℕ
  pub behind_password : List ℕ
  pub behind_number : List ℕ
  pub name : PartedAt 32 text account.name behind_name
  pub password : PartedAt 32 behind_name account.password behind_password
  pub number : LeadsWith 32 behind_password account.id behind_number
  pub end : IsRankAndCountry behind_number account.rank account.country
  pub access : account.access ≡ false
  pub bot : account.bot ≡ false

-- and each field keeps its rule
abbrev pub WritesAccount : List ℕ → Account → Type 0
WritesAccount text account = HasFields text account × (is_sound account ≡ true)
