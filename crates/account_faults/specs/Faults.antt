-- All that is wrong in a table of accounts, account by account and key by key.
use Rattle.std.specs.Prelude.{ℕ, ◌+◌, Bool, false, ◌==◌, codes, List, [], ◌∷◌, ◌++◌, Option, Some, None}
use Rattle.std.specs.Prelude.{option_and_then, unwrap_or, Result, Ok, Err, if◌then◌else◌}
use Rattle.std.specs.Option.{option_map_or}
use Rattle.std.specs.Result.{result_err, result_ok}
use Rattle.line_words.specs.Bytes.{is_name}
use Rattle.toml.specs.Data.{Data, Items, no_items, item, Members, as_table}
use Rattle.toml_fields.specs.Fields.{◌>>=◌, flag, list, number, optional, required, section, text}
use Rattle.toml_fields.specs.declared.fault.FieldFault.{FieldFault}
use Rattle.toml_fields.specs.declared.fault.FieldFault.TheVariants.{NotAllowed}
use Rattle.account_book.specs.Account.{is_country, is_password_word}
use Rattle.account_book.specs.Entries.{disabled_of}
use Rattle.account_book.specs.declared.error.AccountsError.{AccountsError}
use Rattle.account_book.specs.declared.error.AccountsError.TheVariants.{BadField, DuplicateName}
use Rattle.account_faults.specs.Names.{Names, place_of, noted}
use Rattle.account_faults.specs.declared.fault.Fault.{Fault}
use Rattle.account_faults.specs.declared.fault.Fault.TheVariants.{Field, NoTable, SameName}
use Rattle.account_faults.specs.declared.fault.Holder.{Holder}
use Rattle.account_faults.specs.declared.fault.Holder.TheVariants.{WholeFile, DefaultTable, Account}
use Rattle.account_faults.specs.declared.fault.Key.{Key}
use Rattle.account_faults.specs.declared.fault.Key.TheVariants as key

-- what is wrong at a key, if there is a cause
abbrev pub found_at : Holder → Key → Option FieldFault → List Fault
found_at holder its_key None = []
found_at holder its_key (Some cause) = Field holder its_key cause ∷ []

abbrev pub at : {X : Type 0} → Holder → Key → Result X FieldFault → List Fault
at holder its_key said = found_at holder its_key (result_err said)

-- a text that passes a test
abbrev pub that : (List ℕ → Bool) → Data → Result (List ℕ) FieldFault
that test value = text value >>= (λ word. if test word then Ok word else Err NotAllowed)

abbrev pub name_at : Members → Result (List ℕ) FieldFault
name_at table = required (that is_name) (codes "name") table

-- What is wrong in what an account may leave out
abbrev pub profile_faults : Holder → Members → List Fault
profile_faults holder table =
    at holder key.Rank (optional (number 0 7) 0 (codes "rank") table)
    ++ at holder key.Access (optional flag false (codes "access") table)
    ++ at holder key.Bot (optional flag false (codes "bot") table)
    ++ at holder key.Country (optional (that is_country) (codes "??") (codes "country") table)

-- What is wrong in the table of the account with this number
abbrev pub table_faults : ℕ → ℕ → Members → List Fault
table_faults format number_of table =
    at (Account number_of) key.Name (name_at table)
    ++ at (Account number_of) key.Password (required (that is_password_word) (codes "password") table)
    ++ at (Account number_of) key.Id (required (number 0 4294967295) (codes "id") table)
    ++ profile_faults (Account number_of) table
    ++ at (Account number_of) key.Disabled (disabled_of format table)

-- What is wrong in the entry with this number, which has to be a table
abbrev pub entry_faults : ℕ → ℕ → Data → List Fault
entry_faults format number_of entry =
    option_map_or (table_faults format number_of) (as_table entry) (NoTable number_of ∷ [])

-- the name of an entry, if it has a good one
abbrev pub name_in : Data → Option (List ℕ)
name_in entry = option_and_then (λ table. result_ok (name_at table)) (as_table entry)

-- that an earlier account has the name of the entry with this number
abbrev pub twin_faults : ℕ → Names → Option (List ℕ) → List Fault
twin_faults number_of names found =
    option_map_or (λ name. option_map_or (λ first. SameName number_of first ∷ []) (place_of name names) []) found []

-- the names with that of an entry
abbrev pub with_name : ℕ → Names → Option (List ℕ) → Names
with_name number_of names found = option_map_or (λ name. noted name number_of names) found names

-- What is wrong in entries of which the first has this number, and before which these names stand
abbrev pub entries_faults : ℕ → ℕ → Names → Items → List Fault
entries_faults format number_of names no_items = []
entries_faults format number_of names (item entry entries) =
    entry_faults format number_of entry
    ++ twin_faults number_of names (name_in entry)
    ++ entries_faults format (number_of + 1) (with_name number_of names (name_in entry)) entries

-- What is wrong at `default`, if the file may have it
abbrev pub section_faults : Result (Option Members) FieldFault → List Fault
section_faults (Ok found) = option_map_or (profile_faults DefaultTable) found []
section_faults (Err cause) = Field WholeFile key.Default cause ∷ []

abbrev pub default_faults : ℕ → Members → List Fault
default_faults format table =
    if format == 2 then section_faults (optional section None (codes "default") table) else []

-- What is wrong in the list of accounts
abbrev pub list_faults : ℕ → Result Items FieldFault → List Fault
list_faults format (Ok entries) = entries_faults format 1 [] entries
list_faults format (Err cause) = Field WholeFile key.Accounts cause ∷ []

-- the format of a file
abbrev pub format_of : Members → Result ℕ FieldFault
format_of table = optional (number 1 2) 1 (codes "format") table

-- What is wrong in a table, of which the rest is read as in the second format where its own is refused
abbrev pub file_faults : Members → List Fault
file_faults table =
    at WholeFile key.Format (format_of table)
    ++ default_faults (unwrap_or (result_ok (format_of table)) 2) table
    ++ list_faults (unwrap_or (result_ok (format_of table)) 2) (optional list no_items (codes "account") table)

-- What the file is refused for where this is its first fault
abbrev pub error_of : Fault → AccountsError
error_of (Field (Account number_of) its_key cause) = BadField number_of
error_of (Field WholeFile its_key cause) = BadField 0
error_of (Field DefaultTable its_key cause) = BadField 0
error_of (NoTable number_of) = BadField number_of
error_of (SameName number_of first) = DuplicateName

-- what a file with these faults is refused for
abbrev pub refusal : List Fault → Option AccountsError
refusal [] = None
refusal (fault ∷ faults) = Some (error_of fault)
