-- The accounts of a file, over what the tables in it say.
use Rattle.std.specs.Prelude.{◌≡◌, ℕ, ◌+◌, true, not, List, [], ◌∷◌, ◌++◌, length, map, filter, Option, Some, None}
use Rattle.std.specs.Prelude.{is_some, Result, Ok, Err, if◌then◌else◌}
use Rattle.std.specs.Option.{option_map_or}
use Rattle.std.specs.Result.{result_ok}
use Rattle.toml.specs.Data.{Members}
use Rattle.toml_fields.specs.Document.{document}
use Rattle.toml_fields.specs.Fields.{◌>>=◌}
use Rattle.toml_fields.specs.declared.fault.FieldFault.{FieldFault}
use Rattle.account_book.specs.Account.{Account}
use Rattle.account_book.specs.Entries.{Contents, contents_of, descriptions}
use Rattle.account_book.specs.declared.listing.Listing.{Listing}
use Rattle.account_book.specs.declared.error.AccountsError.{AccountsError}
use Rattle.account_book.specs.declared.error.AccountsError.TheVariants.{NotToml, BadField, DuplicateName}
use Rattle.account_book.specs.Book.{account_of, HasDistinctNames}

-- The accounts of a list, disabled or not
abbrev pub accounts_in : List Listing → List Account
accounts_in listings = map (λ listing. listing.account) listings

-- Its accounts that are not disabled
abbrev pub enabled : List Listing → List Account
enabled listings = accounts_in (filter (λ listing. not listing.disabled) listings)

-- The listings with those of entries behind them, of which the first has this place in the list;
-- or the first refusal: a bad entry, or a name that an earlier account has, disabled or not
abbrev pub with_entries : ℕ → List Listing → List (Option Listing)
    → Result (List Listing) AccountsError
with_entries place listings [] = Ok listings
with_entries place listings (None ∷ entries) = Err (BadField place)
with_entries place listings (Some listing ∷ entries) =
    if is_some (account_of listing.account.name (accounts_in listings)) then Err DuplicateName
    else with_entries (place + 1) (listings ++ listing ∷ []) entries

-- The accounts that a list of entries, counted from 1, gives, or its first refusal
abbrev pub listed_accounts : List (Option Listing) → Result (List Account) AccountsError
listed_accounts entries =
    with_entries 1 [] entries >>= (λ listings. Ok (enabled listings))

-- what is said of the file as a whole
abbrev pub whole : {X : Type 0} → Result X FieldFault → Result X AccountsError
whole (Ok value) = Ok value
whole (Err fault) = Err (BadField 0)

-- What the entries of a file describe
abbrev pub entries_in : Contents → List (Option Listing)
entries_in its = descriptions its.format its.default its.entries

-- The accounts of a table, or its first refusal
abbrev pub table_accounts : Members → Result (List Account) AccountsError
table_accounts table =
    whole (contents_of table) >>= (λ its. listed_accounts (entries_in its))

-- What the entries of a table describe, or of a file; none where there is no list
abbrev pub table_entries : Members → List (Option Listing)
table_entries table = option_map_or entries_in (result_ok (contents_of table)) []

abbrev pub file_entries : List ℕ → List (Option Listing)
file_entries bytes = option_map_or table_entries (document bytes) []

-- A whole list that is not refused: each entry describes the account in its place, no two have one
-- name, and the accounts are those that are not disabled
abbrev pub Lists : List (Option Listing) → List Account → Type 0
Lists entries accounts =
    (listings : List Listing) × (entries ≡ map Some listings)
    × HasDistinctNames (accounts_in listings) × (accounts ≡ enabled listings)

-- The account of this number, counted from 1, has the name of an earlier one, and before it no two have one name
abbrev pub IsTwin : List (Option Listing) → ℕ → Type 0
IsTwin entries number =
    (before : List Listing) × (twin : Listing) × (after : List (Option Listing))
    × (entries ≡ map Some before ++ Some twin ∷ after) × (number ≡ length before + 1)
    × HasDistinctNames (accounts_in before) × (is_some (account_of twin.account.name (accounts_in before)) ≡ true)

-- The accounts of a file, or its first refusal
abbrev pub file_accounts : List ℕ → Result (List Account) AccountsError
file_accounts bytes = option_map_or table_accounts (document bytes) (Err NotToml)
