-- The entries of the index of a book, whose keys are the names of its accounts.
use Rattle.std.proofs.Common.{◌≡◌, ℕ, Bool, true, false, List, [], ◌∷◌, ◌++◌, map, Some, None, Result, Ok, Err, OnOk, is_err, Vec, Global, refl, ap, sym, ◌∙◌, arith, cond, subst, ◌||◌}
use Rattle.std.proofs.lemmas.List.{map-append}
use Rattle.std.specs.List.{AllByRecursion, IsDistinct, list_any}
use Rattle.std.specs.Str.{bytes_eq}
use Rattle.std.specs.Map.{lookup}
use Rattle.indexmap.specs.IndexMap.{insert_entry}
use Rattle.std.proofs.lemmas.Map.Keys.{IsDistinct-push}
use Rattle.std.specs.Cmp.Lexicographic.{nat_list_eq_equiv}
use Rattle.account_book.specs.Account.{Account, IsHeld}
use Rattle.account_book.specs.Book.{account_of, HasDistinctNames, IsEntry}

abbrev pub Entry : Type 0
Entry = Vec ℕ Global × Account

-- the accounts of some entries
abbrev pub accounts_in : List Entry → List Account
accounts_in entries = map (λ (entry : Entry). entry.1) entries

-- each is an entry of a book
abbrev pub AreEntries : List Entry → Type 0
AreEntries entries = AllByRecursion (λ (entry : Entry). IsEntry entry.0.items entry.1) entries

pub all_held : (entries : List Entry) → AreEntries entries → AllByRecursion IsHeld (accounts_in entries)
all_held [] each = tt
all_held (e ∷ es) each = (each.0.held, all_held es each.1)

-- a test for one name
abbrev pub TestsFor : (Vec ℕ Global → Bool) → List ℕ → Type 0
TestsFor test name = (key : Vec ℕ Global) → test key ≡ bytes_eq name key.items

-- the index finds the account of a name
pub lookup-account_of : (test : Vec ℕ Global → Bool) (name : List ℕ) → TestsFor test name
    → (entries : List Entry) → AreEntries entries
    → lookup test entries ≡ account_of name (accounts_in entries)
lookup-account_of test name same [] keys = refl
lookup-account_of test name same (e ∷ es) keys =
    let here : test e.0 ≡ bytes_eq name e.1.name = same e.0 ∙ ap (bytes_eq name) keys.0.named in
    let rest = lookup-account_of test name same es keys.1 in
    grind (arith, here, rest)

pub AreEntries-push : (entries : List Entry) (e : Entry) → AreEntries entries
    → IsEntry e.0.items e.1 → AreEntries (entries ++ e ∷ [])
AreEntries-push [] e keys is = (is, tt)
AreEntries-push (x ∷ xs) e keys is = (keys.0, AreEntries-push xs e keys.1 is)

-- a name that finds no account is none of their names
no_name : (name : List ℕ) (accounts : List Account) → account_of name accounts ≡ None
    → list_any (bytes_eq name) (map (λ (a : Account). a.name) accounts) ≡ false
no_name name [] none = refl
no_name name (a ∷ rest) none =
    let more = no_name name rest in
    elim (bytes_eq name a.name) as (λ b. cond b (Some a) (account_of name rest) ≡ None
    → (b || list_any (bytes_eq name) (map (λ (a : Account). a.name) rest)) ≡ false)
    [ true ↦ λ found. cc | false ↦ λ nowhere. more nowhere ] none

-- names stay distinct where the new one finds no account
pub HasDistinctNames-push : (accounts : List Account) (account : Account)
    → HasDistinctNames accounts → account_of account.name accounts ≡ None
    → HasDistinctNames (accounts ++ account ∷ [])
HasDistinctNames-push accounts account distinct none =
    subst (λ names. IsDistinct bytes_eq names) (sym (map-append (λ (a : Account). a.name) accounts
    (account ∷ [])))
    (IsDistinct-push nat_list_eq_equiv (map (λ
    (a : Account). a.name) accounts) account.name distinct (no_name account.name accounts none))

-- what the invariant of a book says
abbrev pub IsIndex : List Entry → Type 0
IsIndex entries = AreEntries entries × HasDistinctNames (accounts_in entries)

-- a new name goes last
pub insert_entry-push : (eq : Vec ℕ Global → Vec ℕ Global
    → Bool) (key : Vec ℕ Global) (name : List ℕ) → TestsFor (eq key) name
    → (account : Account) (entries : List Entry) → AreEntries entries
    → account_of name (accounts_in entries) ≡ None
    → insert_entry eq entries key account ≡ entries ++ (key, account) ∷ []
insert_entry-push eq key name same account [] keys none = refl
insert_entry-push eq key name same account (e ∷ es) keys none =
    let here : eq key e.0 ≡ bytes_eq name e.1.name = same e.0 ∙ ap (bytes_eq name) keys.0.named in
    let rest = insert_entry-push eq key name same account es keys.1 in
    grind (arith, here, rest, none)

-- the index with one more entry
pub IsIndex-push : (old new : List Entry) (e : Entry) → new ≡ old ++ e ∷ [] → IsIndex old
    → IsEntry e.0.items e.1 → account_of e.1.name (accounts_in old) ≡ None → IsIndex new
IsIndex-push old new e grown index its none =
    subst IsIndex (sym grown) (
      AreEntries-push old e index.0 its,
      subst HasDistinctNames (sym (map-append (λ
          (entry : Entry). entry.1) old (e ∷ []))) (HasDistinctNames-push
          (accounts_in old) e.1 index.1 none),
    )

-- what holds on success, where there was no error
pub from_ok : {X E : Type 0} (answer : Result X E) (P : Type 0) → is_err answer ≡ false
    → OnOk answer P → P
from_ok (Ok x) P fine holds = holds
from_ok (Err e) P fine holds = cc
