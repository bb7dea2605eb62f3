-- Accounts by their names.
use Rattle.std.specs.Prelude.{◌≡◌, ℕ, List, map, find, Option, Result, Ok, Err, if◌then◌else◌}
use Rattle.std.specs.List.{IsDistinct}
use Rattle.std.specs.Option.{option_map_or}
use Rattle.std.specs.Str.{bytes_eq}
use Rattle.std.specs.Borrow.{Bor}
use Rattle.account_book.specs.Account.{Account, IsHeld}
use Rattle.account_book.specs.declared.error.LoginFault.{LoginFault}
use Rattle.account_book.specs.declared.error.LoginFault.TheVariants.{NoAccount, BadPassword}

-- The account of a name
abbrev pub account_of : List ℕ → List Account → Option Account
account_of name accounts = find (λ account. bytes_eq name account.name) accounts

-- No two accounts have one name
abbrev pub HasDistinctNames : List Account → Type 0
HasDistinctNames accounts = IsDistinct bytes_eq (map (λ account. account.name) accounts)

-- An entry of a book: its key is the name of its account, which keeps its rules
pub record IsEntry (key : List ℕ) (account : Account) : Type 0 where
  pub named : key ≡ account.name
  pub held : IsHeld account

-- What a login with a name and a password word answers: the account of that name, if its word is
-- this one
abbrev pub login : List Account → List ℕ → List ℕ → Result Account LoginFault
login accounts name word =
    option_map_or
    (λ account. if bytes_eq account.password word then Ok account else Err BadPassword)
    (account_of name accounts) (Err NoAccount)

-- What a look-up answers, with the account itself in place of the reference to it
abbrev pub seen : {X E : Type 0} → Result (Bor X) E → Result X E
seen (Ok account) = Ok account.now
seen (Err fault) = Err fault
