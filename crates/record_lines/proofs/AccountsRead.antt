-- What a file of accounts says that was written for some.
use Rattle.std.proofs.Common.{◌≡◌, ℕ, ◌+◌, false, List, [], ◌∷◌, ◌++◌, map, Some, is_some, Ok, refl, sym, ap, ◌∙◌, subst, arith, le-leb, append_assoc, append-nil}
use Rattle.std.specs.Prelude.{◌&&◌, nat_le}
use Rattle.std.specs.Cmp.Lexicographic.{nat_list_eq_equiv}
use Rattle.std.specs.List.{AllByRecursion, IsDistinct}
use Rattle.std.specs.Str.{bytes_eq}
use Rattle.std.proofs.lemmas.Bool.{and_parts}
use Rattle.std.proofs.lemmas.List.{map-append}
use Rattle.toml.specs.Data.{table}
use Rattle.account_book.specs.Account.{Account, IsHeld, is_country, is_password_word}
use Rattle.account_book.specs.Book.{account_of, HasDistinctNames}
use Rattle.account_book.specs.Entries.{described, descriptions, plain}
use Rattle.account_book.specs.File.{accounts_in, enabled, file_accounts, table_accounts, with_entries}
use Rattle.account_book.specs.declared.listing.Listing.{Listing}
use Rattle.line_words.specs.Bytes.{is_name}
use Rattle.record_lines.specs.Head.{account_items, account_members, accounts_members, IsAccountsText}
use Rattle.record_lines.specs.Masks.{all_hidden}
use Rattle.record_lines.proofs.Masked.{hidden_sound}
use Rattle.record_lines.proofs.Tables.{accounts_read}

abbrev listed : Account → Listing
listed account = record { account = account; disabled = false }

describes : (a : Account) → IsHeld a → described 1 plain (table (account_members a)) ≡ Some (listed a)
describes a held =
    let country = and_parts (is_name a.name && is_password_word a.password && nat_le a.rank 7) (is_country a.country) held.0 in
    let rank = and_parts (is_name a.name && is_password_word a.password) (nat_le a.rank 7) country.0 in
    rw (le-leb 0 a.id (omega arith), le-leb a.id 4294967295 held.1, le-leb 0 a.rank (omega arith), rank.1, held.0) refl

describe : (accounts : List Account) → AllByRecursion IsHeld accounts
    → descriptions 1 plain (account_items accounts) ≡ map (λ (a : Account). Some (listed a)) accounts
describe [] held = refl
describe (a ∷ accounts) held = rw (describes a held.0, describe accounts held.1) refl

-- a name that is behind others is none of theirs
is_new : (front : List Account) (a : Account) (back : List Account) → HasDistinctNames (front ++ a ∷ back)
    → is_some (account_of a.name front) ≡ false
unfolding IsDistinct
is_new [] a back distinct = refl
is_new (f ∷ front) a back distinct = rw (other front distinct.0) (is_new front a back distinct.1)
  where
    other : (front : List Account)
        → AllByRecursion (λ (name : List ℕ). bytes_eq f.name name ≡ false) (map (λ (x : Account). x.name) (front ++ a ∷ back))
        → bytes_eq a.name f.name ≡ false
    other [] apart = nat_list_eq_equiv.symm a.name f.name ∙ apart.0
    other (x ∷ front) apart = other front apart.1

entered : (place : ℕ) (before : List Listing) (accounts : List Account) → HasDistinctNames (accounts_in before ++ accounts)
    → with_entries place before (map (λ (a : Account). Some (listed a)) accounts) ≡ Ok (before ++ map listed accounts)
entered place before [] distinct = ap Ok (sym (append-nil before))
entered place before (a ∷ accounts) distinct =
    let same : accounts_in (before ++ listed a ∷ []) ++ accounts ≡ accounts_in before ++ a ∷ accounts =
    ap (λ (front : List Account). front ++ accounts) (map-append (λ (l : Listing). l.account) before (listed a ∷ []))
    ∙ append_assoc (accounts_in before) (a ∷ []) accounts in
    rw (is_new (accounts_in before) a accounts distinct)
    (entered (place + 1) (before ++ listed a ∷ []) accounts (subst HasDistinctNames (sym same) distinct)
    ∙ ap Ok (append_assoc before (listed a ∷ []) (map listed accounts)))

none_disabled : (accounts : List Account) → enabled (map listed accounts) ≡ accounts
none_disabled [] = refl
none_disabled (a ∷ accounts) = ap (λ (rest : List Account). a ∷ rest) (none_disabled accounts)

table_read : (accounts : List Account) → AllByRecursion IsHeld accounts → HasDistinctNames accounts
    → table_accounts (accounts_members accounts) ≡ Ok accounts
table_read [] held distinct = refl
table_read (a ∷ accounts) held distinct =
    rw (describe (a ∷ accounts) held, entered 1 [] (a ∷ accounts) distinct) (ap Ok (none_disabled (a ∷ accounts)))

-- hidden accounts keep their rules and their names
hold : (accounts : List Account) → AllByRecursion IsHeld accounts → AllByRecursion IsHeld (all_hidden accounts)
hold [] held = tt
hold (a ∷ accounts) held = ((hidden_sound a held.0.0, held.0.1), hold accounts held.1)

names : (accounts : List Account)
    → map (λ (a : Account). a.name) (all_hidden accounts) ≡ map (λ (a : Account). a.name) accounts
names [] = refl
names (a ∷ accounts) = ap (λ (ns : List (List ℕ)). a.name ∷ ns) (names accounts)

pub accounts_back : (accounts : List Account) (text : List ℕ) → AllByRecursion IsHeld accounts
    → HasDistinctNames accounts → IsAccountsText accounts text → file_accounts text ≡ Ok (all_hidden accounts)
accounts_back accounts text held distinct is =
    rw (accounts_read (all_hidden accounts) text is.0 is.1)
    (table_read (all_hidden accounts) (hold accounts held) (subst (IsDistinct bytes_eq) (sym (names accounts)) distinct))
