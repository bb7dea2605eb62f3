-- The first of all faults is what a file of accounts is refused for.
use Rattle.std.proofs.Common.{◌≡◌, ℕ, ◌+◌, Bool, true, false, List, [], ◌∷◌, ◌++◌, Option, Some, None, Result, Ok, Err, is_some, refl, ap, sym, ◌∙◌, subst, append_assoc, arith}
use Rattle.std.specs.Prelude.{ℤ, pos, negsuc, ◌&&◌, ◌||◌, ◌==◌, nat_le, codes, is_ok, option_and_then, option_map, unwrap_or, if◌then◌else◌}
use Rattle.std.specs.Option.{option_map_or}
use Rattle.std.specs.Result.{result_err, result_ok}
use Rattle.std.specs.Str.{bytes_eq}
use Rattle.line_words.specs.Bytes.{is_name}
use Rattle.toml.specs.Data.{Data, Items, no_items, item, Members, as_integer, as_table, get_member}
use Rattle.toml_fields.specs.Fields.{◌>>=◌, flag, list, number, of_kind, optional, required, section, text, within}
use Rattle.toml_fields.specs.declared.fault.FieldFault.{FieldFault}
use Rattle.toml_fields.specs.declared.fault.FieldFault.TheVariants.{Missing, NotAllowed}
use Rattle.account_book.specs.Account.{is_country, is_password_word, is_sound, stated}
use Rattle.account_book.specs.Book.{account_of}
use Rattle.account_book.specs.Entries.{contents, default_of, described, descriptions, disabled_of, listing_of}
use Rattle.account_book.specs.Entries.{plain, profile, Profile, profile_of, with_country}
use Rattle.account_book.specs.File.{accounts_in, enabled, entries_in, listed_accounts, table_accounts, whole, with_entries}
use Rattle.account_book.specs.declared.error.AccountsError.{AccountsError}
use Rattle.account_book.specs.declared.error.AccountsError.TheVariants.{BadField, DuplicateName}
use Rattle.account_book.specs.declared.listing.Listing.{Listing}
use Rattle.account_faults.specs.Names.{Names, place_of}
use Rattle.account_faults.specs.Faults.{at, default_faults, entries_faults, entry_faults, error_of, file_faults, format_of}
use Rattle.account_faults.specs.Faults.{list_faults, name_at, name_in, profile_faults, refusal, section_faults, table_faults}
use Rattle.account_faults.specs.Faults.{that, twin_faults, with_name}
use Rattle.account_faults.specs.declared.fault.Fault.{Fault}
use Rattle.account_faults.specs.declared.fault.Fault.TheVariants.{Field, NoTable, SameName}
use Rattle.account_faults.specs.declared.fault.Holder.{Holder}
use Rattle.account_faults.specs.declared.fault.Holder.TheVariants.{WholeFile, DefaultTable, Account}
use Rattle.account_faults.specs.declared.fault.Key.{Key}
use Rattle.account_faults.specs.declared.fault.Key.TheVariants as key

-- what is refused where the part with this number is good, or is not
abbrev pub verdict : ℕ → Bool → Option AccountsError
verdict number_of true = None
verdict number_of false = Some (BadField number_of)

-- faults of one part
abbrev pub Judges : ℕ → List Fault → Bool → Type 0
Judges number_of faults good = refusal faults ≡ verdict number_of good

-- a holder is told by its number
abbrev pub IsAt : ℕ → Holder → Type 0
IsAt number_of holder = (its_key : Key) (cause : FieldFault) → error_of (Field holder its_key cause) ≡ BadField number_of

judges_at : {X : Type 0} (number_of : ℕ) (holder : Holder) (its_key : Key) (said : Result X FieldFault) → IsAt number_of holder
    → Judges number_of (at holder its_key said) (is_ok said)
judges_at number_of holder its_key (Ok x) is = refl
judges_at number_of holder its_key (Err cause) is = ap Some (is its_key cause)

judges_join : (number_of : ℕ) (front rest : List Fault) (p q : Bool) → Judges number_of front p → Judges number_of rest q
    → Judges number_of (front ++ rest) (p && q)
judges_join number_of [] rest true q a b = b
judges_join number_of [] rest false q a b = absurd (cc)
judges_join number_of (fault ∷ front) rest true q a b = absurd (cc)
judges_join number_of (fault ∷ front) rest false q a b = a

judges_same : (number_of : ℕ) (faults : List Fault) (p q : Bool) → p ≡ q → Judges number_of faults p → Judges number_of faults q
judges_same number_of faults p q same judges = judges ∙ ap (verdict number_of) same

-- whether a word was said that passes a test
abbrev pub passes : (List ℕ → Bool) → Result (List ℕ) FieldFault → Bool
passes test (Ok word) = test word
passes test (Err cause) = false

abbrev pub said_if : Bool → List ℕ → Result (List ℕ) FieldFault
said_if b word = if b then Ok word else Err NotAllowed

abbrev pub passed_word : Result (List ℕ) FieldFault → List ℕ
passed_word (Ok word) = word
passed_word (Err cause) = []

abbrev pub profile_if : Bool → Profile → Result Profile FieldFault
profile_if b its = if b then Ok its else Err NotAllowed

abbrev pub profile_in : Result Profile FieldFault → Profile
profile_in (Ok its) = its
profile_in (Err cause) = plain

abbrev pub the_ok : List ℕ → Result (List ℕ) FieldFault
the_ok word = Ok word

tested : (test : List ℕ → Bool) (said : Result (List ℕ) FieldFault)
    → is_ok (said >>= (λ word. if test word then Ok word else Err NotAllowed)) ≡ passes test said
tested test (Err cause) = refl
tested test (Ok word) =
    elim (test word) as (λ (b : Bool). is_ok (said_if b word) ≡ b) [ true ↦ refl | false ↦ refl ]

required_that : (test : List ℕ → Bool) (its_key : List ℕ) (table : Members)
    → is_ok (required (that test) its_key table) ≡ passes test (required text its_key table)
required_that test its_key table =
    elim (get_member its_key table) as (λ (found : Option Data). is_ok (option_map_or (that test) found (Err Missing))
    ≡ passes test (option_map_or text found (Err Missing))) [ None ↦ refl | Some value ↦ tested test (text value) ]

-- a default says nothing of whether a value is good
optional_alike : {X : Type 0} (read : Data → Result X FieldFault) (one other : X) (its_key : List ℕ) (table : Members)
    → is_ok (optional read one its_key table) ≡ is_ok (optional read other its_key table)
optional_alike read one other its_key table =
    elim (get_member its_key table) as (λ (found : Option Data). is_ok (option_map_or read found (Ok one))
    ≡ is_ok (option_map_or read found (Ok other))) [ None ↦ refl | Some value ↦ refl ]

optional_country : (country : List ℕ) (table : Members) → is_country country ≡ true
    → is_ok (optional (that is_country) (codes "??") (codes "country") table) ≡ passes is_country (optional text country (codes "country") table)
optional_country country table is =
    elim (get_member (codes "country") table) as (λ (found : Option Data). is_ok (option_map_or (that is_country) found (Ok (codes "??")))
    ≡ passes is_country (option_map_or text found (Ok country))) [ None ↦ sym is | Some value ↦ tested is_country (text value) ]

-- a profile that accounts can have
abbrev pub IsFine : Profile → Type 0
IsFine its = (nat_le its.rank 7 ≡ true) × (is_country its.country ≡ true)

-- a rank that was read is one
abbrev pub IsSmall : Result ℕ FieldFault → Type 0
IsSmall said = (rank : ℕ) → said ≡ Ok rank → nat_le rank 7 ≡ true

within_small : (found : ℤ) → IsSmall (within 0 7 found)
within_small (pos n) rank is =
    (elim (nat_le n 7) as (λ (b : Bool). nat_le n 7 ≡ b → (if nat_le 0 n && b then Ok n else Err NotAllowed) ≡ Ok rank → nat_le rank 7 ≡ true) [
      | true ↦ λ small same. grind (arith, small, same)
      | false ↦ λ large same. grind (arith, large, same)
    ]) refl is
within_small (negsuc n) rank is = absurd (cc)

number_small : (value : Data) → IsSmall (number 0 7 value)
number_small value =
    elim (as_integer value) as (λ (found : Option ℤ). IsSmall (of_kind found >>= within 0 7)) [
      | None ↦ λ rank is. absurd (cc)
      | Some found ↦ within_small found
    ]

rank_small : (rank : ℕ) (table : Members) → nat_le rank 7 ≡ true → IsSmall (optional (number 0 7) rank (codes "rank") table)
rank_small rank table small =
    elim (get_member (codes "rank") table) as (λ (found : Option Data). IsSmall (option_map_or (number 0 7) found (Ok rank))) [
      | None ↦ λ other is. subst (λ r. nat_le r 7 ≡ true) (cc) small
      | Some value ↦ number_small value
    ]

-- whether all that an account states is good
abbrev pub all_good : Result (List ℕ) FieldFault → Result (List ℕ) FieldFault → Result ℕ FieldFault → Result ℕ FieldFault
    → Result Bool FieldFault → Result Bool FieldFault → Result (List ℕ) FieldFault → Result Bool FieldFault → Bool
all_good name password id rank access bot country disabled =
    passes is_name name && passes is_password_word password && is_ok id
    && (is_ok rank && is_ok access && is_ok bot && passes is_country country) && is_ok disabled

-- the listing that is stated
abbrev pub listing_said : Result (List ℕ) FieldFault → Result (List ℕ) FieldFault → Result ℕ FieldFault → Result ℕ FieldFault
    → Result Bool FieldFault → Result Bool FieldFault → Result (List ℕ) FieldFault → Result Bool FieldFault → Option Listing
listing_said name password id rank access bot country disabled =
    option_and_then (λ account. option_and_then (λ disabled.
    if is_sound account then Some (record { account = account; disabled = disabled }) else None) (result_ok disabled))
    (result_ok (name >>= (λ name. password >>= (λ password. id >>= (λ id.
    (rank >>= (λ rank. access >>= (λ access. bot >>= (λ bot. country >>= (λ country. Ok (profile rank access bot country))))))
    >>= (λ (its : Profile). Ok (stated name password id its.rank its.access its.bot its.country)))))))

is_some_if : {X : Type 0} (b : Bool) (x : X) → is_some (if b then Some x else None) ≡ b
is_some_if true x = refl
is_some_if false x = refl

four : (a b c d : Bool) → c ≡ true → (a && b && c && d) ≡ (a && b && true && (true && true && true && d) && true)
four true true c true is = grind (arith, is)
four true true c false is = grind (arith, is)
four true false c d is = refl
four false b c d is = refl

never : (a : Bool) → (a && false) ≡ false
never true = refl
never false = refl

said_good : (name password : Result (List ℕ) FieldFault) (id rank : Result ℕ FieldFault) (access bot : Result Bool FieldFault)
    (country : Result (List ℕ) FieldFault) (disabled : Result Bool FieldFault) → IsSmall rank
    → is_some (listing_said name password id rank access bot country disabled)
    ≡ all_good name password id rank access bot country disabled
said_good (Err e) password id rank access bot country disabled small = refl
said_good (Ok n) (Err e) id rank access bot country disabled small = grind (arith, never)
said_good (Ok n) (Ok p) (Err e) rank access bot country disabled small = grind (arith, never)
said_good (Ok n) (Ok p) (Ok i) (Err e) access bot country disabled small = grind (arith, never)
said_good (Ok n) (Ok p) (Ok i) (Ok r) (Err e) bot country disabled small = grind (arith, never)
said_good (Ok n) (Ok p) (Ok i) (Ok r) (Ok a) (Err e) country disabled small = grind (arith, never)
said_good (Ok n) (Ok p) (Ok i) (Ok r) (Ok a) (Ok b) (Err e) disabled small = grind (arith, never)
said_good (Ok n) (Ok p) (Ok i) (Ok r) (Ok a) (Ok b) (Ok c) (Err e) small = grind (arith, never)
said_good (Ok n) (Ok p) (Ok i) (Ok r) (Ok a) (Ok b) (Ok c) (Ok d) small =
    is_some_if (is_name n && is_password_word p && nat_le r 7 && is_country c) _
    ∙ four (is_name n) (is_password_word p) (nat_le r 7) (is_country c) (small r refl)

-- the name of what is stated is the one that was read
said_name : (name password : Result (List ℕ) FieldFault) (id rank : Result ℕ FieldFault) (access bot : Result Bool FieldFault)
    (country : Result (List ℕ) FieldFault) (disabled : Result Bool FieldFault) (listing : Listing)
    → listing_said name password id rank access bot country disabled ≡ Some listing → name ≡ Ok listing.account.name
said_name (Err e) password id rank access bot country disabled listing is = absurd (cc)
said_name (Ok n) (Err e) id rank access bot country disabled listing is = absurd (cc)
said_name (Ok n) (Ok p) (Err e) rank access bot country disabled listing is = absurd (cc)
said_name (Ok n) (Ok p) (Ok i) (Err e) access bot country disabled listing is = absurd (cc)
said_name (Ok n) (Ok p) (Ok i) (Ok r) (Err e) bot country disabled listing is = absurd (cc)
said_name (Ok n) (Ok p) (Ok i) (Ok r) (Ok a) (Err e) country disabled listing is = absurd (cc)
said_name (Ok n) (Ok p) (Ok i) (Ok r) (Ok a) (Ok b) (Err e) disabled listing is = absurd (cc)
said_name (Ok n) (Ok p) (Ok i) (Ok r) (Ok a) (Ok b) (Ok c) (Err e) listing is = absurd (cc)
said_name (Ok n) (Ok p) (Ok i) (Ok r) (Ok a) (Ok b) (Ok c) (Ok d) listing is =
    (elim (is_name n && is_password_word p && nat_le r 7 && is_country c) as (λ (sound : Bool).
    (if sound then Some (record { account = stated n p i r a b c; disabled = d }) else None) ≡ Some listing
    → the_ok n ≡ the_ok listing.account.name) [
      | true ↦ λ same. ap (λ (found : Option Listing). Ok (unwrap_or (option_map (λ (l : Listing). l.account.name) found) n)) same
      | false ↦ λ same. absurd (cc)
    ]) is

-- what is wrong at a key of an account
at_key : {X : Type 0} (number_of : ℕ) (its_key : Key) (said : Result X FieldFault) (good : Bool) → is_ok said ≡ good
    → Judges number_of (at (Account number_of) its_key said) good
at_key number_of its_key said good same =
    judges_same number_of (at (Account number_of) its_key said) (is_ok said) good same
    (judges_at number_of (Account number_of) its_key said (λ k cause. refl))

-- an entry
module _ (format : ℕ) (default : Profile) (fine : IsFine default) (number_of : ℕ) (table : Members) where
  table_good : Judges number_of (table_faults format number_of table)
      (all_good (required text (codes "name") table) (required text (codes "password") table)
      (required (number 0 4294967295) (codes "id") table) (optional (number 0 7) default.rank (codes "rank") table)
      (optional flag default.access (codes "access") table) (optional flag default.bot (codes "bot") table)
      (optional text default.country (codes "country") table) (disabled_of format table))
  table_good =
      judges_join number_of _ _ _ _ (judges_join number_of _ _ _ _ (judges_join number_of _ _ _ _ (judges_join number_of _ _ _ _
      (at_key number_of key.Name (name_at table) _ (required_that is_name (codes "name") table))
      (at_key number_of key.Password (required (that is_password_word) (codes "password") table) _
      (required_that is_password_word (codes "password") table)))
      (at_key number_of key.Id (required (number 0 4294967295) (codes "id") table) _ refl))
      (judges_join number_of _ _ _ _ (judges_join number_of _ _ _ _ (judges_join number_of _ _ _ _
      (at_key number_of key.Rank (optional (number 0 7) 0 (codes "rank") table) _ (optional_alike (number 0 7) 0 default.rank (codes "rank") table))
      (at_key number_of key.Access (optional flag false (codes "access") table) _ (optional_alike flag false default.access (codes "access") table)))
      (at_key number_of key.Bot (optional flag false (codes "bot") table) _ (optional_alike flag false default.bot (codes "bot") table)))
      (at_key number_of key.Country (optional (that is_country) (codes "??") (codes "country") table) _
      (optional_country default.country table fine.1))))
      (at_key number_of key.Disabled (disabled_of format table) _ refl)

  listing_good : Judges number_of (table_faults format number_of table) (is_some (listing_of format default table))
  listing_good = judges_same number_of _ _ _ (sym (said_good (required text (codes "name") table) (required text (codes "password") table)
      (required (number 0 4294967295) (codes "id") table) (optional (number 0 7) default.rank (codes "rank") table)
      (optional flag default.access (codes "access") table) (optional flag default.bot (codes "bot") table)
      (optional text default.country (codes "country") table) (disabled_of format table)
      (rank_small default.rank table fine.0))) table_good

entry_good : (format : ℕ) (default : Profile) (number_of : ℕ) (entry : Data) → IsFine default
    → Judges number_of (entry_faults format number_of entry) (is_some (described format default entry))
entry_good format default number_of entry fine =
    elim (as_table entry) as (λ (found : Option Members). Judges number_of
    (option_map_or (table_faults format number_of) found (NoTable number_of ∷ []))
    (is_some (option_and_then (listing_of format default) found))) [
      | None ↦ refl
      | Some table ↦ listing_good format default fine number_of table
    ]

-- the name of a good entry
passed_text : (test : List ℕ → Bool) (said : Result (List ℕ) FieldFault) (word : List ℕ) → said ≡ Ok word
    → is_ok (said >>= (λ w. if test w then Ok w else Err NotAllowed)) ≡ true
    → result_ok (said >>= (λ w. if test w then Ok w else Err NotAllowed)) ≡ Some word
passed_text test (Err cause) word is good = absurd (cc)
passed_text test (Ok other) word is good =
    (elim (test other) as (λ (b : Bool). is_ok (said_if b other) ≡ true → result_ok (said_if b other) ≡ Some word) [
      | true ↦ λ fine. ap (λ said. Some (passed_word said)) is
      | false ↦ λ fine. absurd (cc)
    ]) good

passed : (test : List ℕ → Bool) (its_key : List ℕ) (table : Members) (word : List ℕ) → required text its_key table ≡ Ok word
    → is_ok (required (that test) its_key table) ≡ true → result_ok (required (that test) its_key table) ≡ Some word
passed test its_key table word is good =
    (elim (get_member its_key table) as (λ (found : Option Data). option_map_or text found (Err Missing) ≡ Ok word
    → is_ok (option_map_or (that test) found (Err Missing)) ≡ true → result_ok (option_map_or (that test) found (Err Missing)) ≡ Some word) [
      | None ↦ λ same fine. absurd (cc)
      | Some value ↦ passed_text test (text value) word
    ]) is good

first_true : (a b c d e : Bool) → (a && b && c && d && e) ≡ true → a ≡ true
first_true true b c d e is = refl
first_true false b c d e is = absurd (cc)

good_name : (format : ℕ) (default : Profile) (entry : Data) (listing : Listing) → IsFine default
    → described format default entry ≡ Some listing → name_in entry ≡ Some listing.account.name
good_name format default entry listing fine =
    elim (as_table entry) as (λ (found : Option Members). option_and_then (listing_of format default) found ≡ Some listing
    → option_and_then (λ table. result_ok (name_at table)) found ≡ Some listing.account.name) [
      | None ↦ λ is. absurd (cc)
      | Some table ↦ λ is. passed is_name (codes "name") table listing.account.name
          (said_name (required text (codes "name") table) (required text (codes "password") table)
          (required (number 0 4294967295) (codes "id") table) (optional (number 0 7) default.rank (codes "rank") table)
          (optional flag default.access (codes "access") table) (optional flag default.bot (codes "bot") table)
          (optional text default.country (codes "country") table) (disabled_of format table) listing is)
          (required_that is_name (codes "name") table ∙ first_true _ _ _ _ _
          (sym (said_good (required text (codes "name") table) (required text (codes "password") table)
          (required (number 0 4294967295) (codes "id") table) (optional (number 0 7) default.rank (codes "rank") table)
          (optional flag default.access (codes "access") table) (optional flag default.bot (codes "bot") table)
          (optional text default.country (codes "country") table) (disabled_of format table)
          (rank_small default.rank table fine.0)) ∙ ap (λ (its : Option Listing). is_some its) is))
    ]

-- names that are those of listings
abbrev pub AreNames : Names → List Listing → Type 0
AreNames names listings =
    (name : List ℕ) → is_some (place_of name names) ≡ is_some (account_of name (accounts_in listings))

place_of-push : (names : Names) (name word : List ℕ) (place : ℕ)
    → is_some (place_of name (names ++ (word, place) ∷ [])) ≡ (is_some (place_of name names) || bytes_eq name word)
place_of-push [] name word place = grind arith
place_of-push (n ∷ names) name word place =
    let rest = place_of-push names name word place in
    grind (arith, rest)

account_of-push : (listings : List Listing) (name : List ℕ) (listing : Listing)
    → is_some (account_of name (accounts_in (listings ++ listing ∷ [])))
    ≡ (is_some (account_of name (accounts_in listings)) || bytes_eq name listing.account.name)
account_of-push [] name listing = grind arith
account_of-push (l ∷ listings) name listing =
    let rest = account_of-push listings name listing in
    grind (arith, rest)

AreNames-push : (names : Names) (listings : List Listing) (listing : Listing) (place : ℕ) → AreNames names listings
    → AreNames (names ++ (listing.account.name, place) ∷ []) (listings ++ listing ∷ [])
AreNames-push names listings listing place are name =
    place_of-push names name listing.account.name place ∙ ap (λ known. known || bytes_eq name listing.account.name) (are name)
    ∙ sym (account_of-push listings name listing)

-- what is refused of entries of which the first is bad, or good
bad_entry : (place : ℕ) (faults more : List Fault) → Judges place faults false → refusal (faults ++ more) ≡ Some (BadField place)
bad_entry place [] more judges = absurd (cc)
bad_entry place (fault ∷ faults) more judges = judges

good_entry : (place : ℕ) (faults : List Fault) → Judges place faults true → faults ≡ []
good_entry place [] judges = refl
good_entry place (fault ∷ faults) judges = absurd (cc)

module _ (format : ℕ) (default : Profile) (fine : IsFine default) where
  -- what entries are refused for, behind these names
  abbrev Leads : Items → ℕ → Names → List Listing → Type 0
  Leads entries place names listings =
      refusal (entries_faults format place names entries)
      ≡ result_err (with_entries place listings (descriptions format default entries))

  after_good : (entries : Items) (place : ℕ) (names : Names) (listings : List Listing) (listing : Listing) → AreNames names listings
      → Leads entries (place + 1) (names ++ (listing.account.name, place) ∷ []) (listings ++ listing ∷ [])
      → refusal (twin_faults place names (Some listing.account.name)
      ++ entries_faults format (place + 1) (with_name place names (Some listing.account.name)) entries)
      ≡ result_err (with_entries place listings (Some listing ∷ descriptions format default entries))
  after_good entries place names listings listing are leads =
      (elim (place_of listing.account.name names) as (λ (found : Option ℕ).
      is_some found ≡ is_some (account_of listing.account.name (accounts_in listings))
      → refusal (option_map_or (λ first. SameName place first ∷ []) found []
      ++ entries_faults format (place + 1) (if is_some found then names else names ++ (listing.account.name, place) ∷ []) entries)
      ≡ result_err (with_entries place listings (Some listing ∷ descriptions format default entries))) [
        | Some first ↦ λ known. ap (λ (b : Bool). result_err (if b then Err DuplicateName
            else with_entries (place + 1) (listings ++ listing ∷ []) (descriptions format default entries))) known
        | None ↦ λ known. leads
            ∙ ap (λ (b : Bool). result_err (if b then Err DuplicateName
            else with_entries (place + 1) (listings ++ listing ∷ []) (descriptions format default entries))) known
      ]) (are listing.account.name)

  entries_lead : (entries : Items) (place : ℕ) (names : Names) (listings : List Listing) → AreNames names listings
      → Leads entries place names listings
  entries_lead no_items place names listings are = refl
  entries_lead (item entry entries) place names listings are =
      (elim (described format default entry) as (λ (found : Option Listing). described format default entry ≡ found
      → refusal (entry_faults format place entry ++ twin_faults place names (name_in entry)
      ++ entries_faults format (place + 1) (with_name place names (name_in entry)) entries)
      ≡ result_err (with_entries place listings (found ∷ descriptions format default entries))) [
        | None ↦ λ is. rw append_assoc (bad_entry place (entry_faults format place entry) _
            (judges_same place (entry_faults format place entry) _ _ (ap (λ (its : Option Listing). is_some its) is)
            (entry_good format default place entry fine)))
        | Some listing ↦ λ is.
            ap (λ front. refusal (front ++ twin_faults place names (name_in entry)
            ++ entries_faults format (place + 1) (with_name place names (name_in entry)) entries))
            (good_entry place (entry_faults format place entry)
            (judges_same place (entry_faults format place entry) _ _ (ap (λ (its : Option Listing). is_some its) is)
            (entry_good format default place entry fine)))
            ∙ ap (λ name. refusal (twin_faults place names name ++ entries_faults format (place + 1) (with_name place names name) entries))
            (good_name format default entry listing fine is)
            ∙ after_good entries place names listings listing are (entries_lead entries (place + 1) (names ++ (listing.account.name, place) ∷ [])
            (listings ++ listing ∷ []) (AreNames-push names listings listing place are))
      ]) refl

-- what is wrong at `default`, and what it says
abbrev pub profile_said : Result ℕ FieldFault → Result Bool FieldFault → Result Bool FieldFault → Result (List ℕ) FieldFault
    → Result Profile FieldFault
profile_said rank access bot country =
    (rank >>= (λ rank. access >>= (λ access. bot >>= (λ bot. country >>= (λ country. Ok (profile rank access bot country))))))
    >>= with_country

with_country_ok : (its : Profile) → is_ok (with_country its) ≡ is_country its.country
with_country_ok its =
    elim (is_country its.country) as (λ (b : Bool). is_ok (profile_if b its) ≡ b) [ true ↦ refl | false ↦ refl ]

profile_ok : (rank : Result ℕ FieldFault) (access bot : Result Bool FieldFault) (country : Result (List ℕ) FieldFault)
    → is_ok (profile_said rank access bot country) ≡ (is_ok rank && is_ok access && is_ok bot && passes is_country country)
profile_ok (Err e) access bot country = refl
profile_ok (Ok r) (Err e) bot country = refl
profile_ok (Ok r) (Ok a) (Err e) country = refl
profile_ok (Ok r) (Ok a) (Ok b) (Err e) = refl
profile_ok (Ok r) (Ok a) (Ok b) (Ok c) = with_country_ok (profile r a b c)

profile_fine : (rank : Result ℕ FieldFault) (access bot : Result Bool FieldFault) (country : Result (List ℕ) FieldFault) (its : Profile)
    → IsSmall rank → profile_said rank access bot country ≡ Ok its → IsFine its
profile_fine (Err e) access bot country its small is = absurd (cc)
profile_fine (Ok r) (Err e) bot country its small is = absurd (cc)
profile_fine (Ok r) (Ok a) (Err e) country its small is = absurd (cc)
profile_fine (Ok r) (Ok a) (Ok b) (Err e) its small is = absurd (cc)
profile_fine (Ok r) (Ok a) (Ok b) (Ok c) its small is =
    (elim (is_country c) as (λ (good : Bool). is_country c ≡ good → profile_if good (profile r a b c) ≡ Ok its → IsFine its) [
      | true ↦ λ good same. subst IsFine (ap profile_in same) (small r refl, good)
      | false ↦ λ bad same. absurd (cc)
    ]) refl is

profile_good : (table : Members) → Judges 0 (profile_faults DefaultTable table) (is_ok (profile_of plain table >>= with_country))
profile_good table =
    let rank = optional (number 0 7) 0 (codes "rank") table in
    let access = optional flag false (codes "access") table in
    let bot = optional flag false (codes "bot") table in
    let country = optional text (codes "??") (codes "country") table in
    judges_same 0 _ _ _ (sym (profile_ok rank access bot country))
    (judges_join 0 _ _ _ _ (judges_join 0 _ _ _ _ (judges_join 0 _ _ _ _
    (judges_at 0 DefaultTable key.Rank rank (λ its_key cause. refl))
    (judges_at 0 DefaultTable key.Access access (λ its_key cause. refl)))
    (judges_at 0 DefaultTable key.Bot bot (λ its_key cause. refl)))
    (judges_same 0 _ _ _ (optional_country (codes "??") table refl)
    (judges_at 0 DefaultTable key.Country (optional (that is_country) (codes "??") (codes "country") table) (λ its_key cause. refl))))

abbrev pub default_said : Result (Option Members) FieldFault → Result Profile FieldFault
default_said said = said >>= (λ found. option_map_or (λ default. profile_of plain default >>= with_country) found (Ok plain))

section_good : (said : Result (Option Members) FieldFault) → Judges 0 (section_faults said) (is_ok (default_said said))
section_good (Err cause) = refl
section_good (Ok None) = refl
section_good (Ok (Some table)) = profile_good table

section_fine : (said : Result (Option Members) FieldFault) (its : Profile) → default_said said ≡ Ok its → IsFine its
section_fine (Err cause) its is = absurd (cc)
section_fine (Ok None) its is = subst IsFine (ap profile_in is) (refl, refl)
section_fine (Ok (Some table)) its is =
    profile_fine (optional (number 0 7) 0 (codes "rank") table) (optional flag false (codes "access") table)
    (optional flag false (codes "bot") table) (optional text (codes "??") (codes "country") table) its (rank_small 0 table refl) is

default_good : (format : ℕ) (table : Members) → Judges 0 (default_faults format table) (is_ok (default_of format table))
default_good format table =
    elim (format == 2) as (λ (second : Bool). Judges 0
    (if second then section_faults (optional section None (codes "default") table) else [])
    (is_ok (if second then default_said (optional section None (codes "default") table) else Ok plain))) [
      | true ↦ section_good (optional section None (codes "default") table)
      | false ↦ refl
    ]

default_fine : (format : ℕ) (table : Members) (its : Profile) → default_of format table ≡ Ok its → IsFine its
default_fine format table its =
    elim (format == 2) as (λ (second : Bool).
    (if second then default_said (optional section None (codes "default") table) else Ok plain) ≡ Ok its → IsFine its) [
      | true ↦ section_fine (optional section None (codes "default") table) its
      | false ↦ λ is. subst IsFine (ap profile_in is) (refl, refl)
    ]

kept : (said : Result (List Listing) AccountsError) → result_err said ≡ result_err (said >>= (λ listings. Ok (enabled listings)))
kept (Ok listings) = refl
kept (Err error) = refl

-- what is refused of the list of accounts
list_leads : (format : ℕ) (default : Profile) (said : Result Items FieldFault) → IsFine default
    → refusal (list_faults format said)
    ≡ result_err (whole (said >>= (λ entries. Ok (contents format default entries))) >>= (λ its. listed_accounts (entries_in its)))
list_leads format default (Err cause) fine = refl
list_leads format default (Ok entries) fine = entries_lead format default fine entries 1 [] [] (λ name. refl) ∙ kept (with_entries 1 [] (descriptions format default entries))

after_format : (format : ℕ) (table : Members)
    → refusal (default_faults format table ++ list_faults format (optional list no_items (codes "account") table))
    ≡ result_err (whole (default_of format table >>= (λ default.
    optional list no_items (codes "account") table >>= (λ entries. Ok (contents format default entries))))
    >>= (λ its. listed_accounts (entries_in its)))
after_format format table =
    (elim (default_of format table) as (λ (said : Result Profile FieldFault). default_of format table ≡ said
    → refusal (default_faults format table ++ list_faults format (optional list no_items (codes "account") table))
    ≡ result_err (whole (said >>= (λ default.
    optional list no_items (codes "account") table >>= (λ entries. Ok (contents format default entries))))
    >>= (λ its. listed_accounts (entries_in its)))) [
      | Err cause ↦ λ is. bad_entry 0 (default_faults format table) _
          (judges_same 0 (default_faults format table) _ _ (ap (λ (it : Result Profile FieldFault). is_ok it) is) (default_good format table))
      | Ok default ↦ λ is. ap (λ front. refusal (front ++ list_faults format (optional list no_items (codes "account") table)))
          (good_entry 0 (default_faults format table)
          (judges_same 0 (default_faults format table) _ _ (ap (λ (it : Result Profile FieldFault). is_ok it) is) (default_good format table)))
          ∙ list_leads format default (optional list no_items (codes "account") table) (default_fine format table default is)
    ]) refl

pub accounts_lead : (table : Members) → refusal (file_faults table) ≡ result_err (table_accounts table)
accounts_lead table =
    elim (format_of table) as (λ (said : Result ℕ FieldFault). refusal (at WholeFile key.Format said
    ++ default_faults (unwrap_or (result_ok said) 2) table
    ++ list_faults (unwrap_or (result_ok said) 2) (optional list no_items (codes "account") table))
    ≡ result_err (whole (said >>= (λ format. default_of format table >>= (λ default.
    optional list no_items (codes "account") table >>= (λ entries. Ok (contents format default entries)))))
    >>= (λ its. listed_accounts (entries_in its)))) [
      | Err cause ↦ refl
      | Ok format ↦ after_format format table
    ]
