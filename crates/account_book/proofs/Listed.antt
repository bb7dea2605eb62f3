-- What the entries of a list come to.
use Rattle.std.proofs.Common.{◌≡◌, ℕ, ◌+◌, Bool, true, false, ◌||◌, List, [], ◌∷◌, ◌++◌, map, filter, Option, Some, None, Result, Ok, Err, is_some, refl, ap, sym, ◌∙◌, append_assoc, append-nil, arith, if◌then◌else◌, subst, length, length-append}
use Rattle.std.specs.List.{IsDistinct}
use Rattle.std.proofs.lemmas.List.{map-append}
use Rattle.toml_fields.specs.Fields.{◌>>=◌}
use Rattle.account_book.specs.Account.{Account}
use Rattle.account_book.specs.declared.listing.Listing.{Listing}
use Rattle.account_book.specs.declared.error.AccountsError.{AccountsError}
use Rattle.account_book.specs.declared.error.AccountsError.TheVariants.{BadField, DuplicateName}
use Rattle.account_book.specs.Book.{account_of, HasDistinctNames}
use Rattle.account_book.specs.File.{accounts_in, enabled, with_entries, listed_accounts, IsTwin, Lists}
use Rattle.account_book.proofs.Index.{HasDistinctNames-push}
use Rattle.line_words.proofs.Options.{none_from_is_some}

-- the accounts that are disabled
abbrev pub disabled_in : List Listing → List Account
disabled_in listings = accounts_in (filter (λ listing. listing.disabled) listings)

-- whether one of either list has a name
abbrev pub is_known : List ℕ → List Account → List Account → Bool
is_known name book disabled = is_some (account_of name book) || is_some (account_of name disabled)

-- a name is known where an account has it, disabled or not
is_known-split : (name : List ℕ) (listings : List Listing)
    → is_some (account_of name (accounts_in listings))
    ≡ is_known name (enabled listings) (disabled_in listings)
is_known-split name [] = refl
is_known-split name (l ∷ ls) =
    let rest = is_known-split name ls in
    grind (arith, rest)

enabled-push : (listings : List Listing) (listing : Listing)
    → enabled (listings ++ listing ∷ [])
    ≡ (if listing.disabled then enabled listings else enabled listings ++ listing.account ∷ [])
enabled-push [] listing = grind arith
enabled-push (l ∷ ls) listing =
    let rest = enabled-push ls listing in
    grind (arith, rest)

disabled_in-push : (listings : List Listing) (listing : Listing)
    → disabled_in (listings ++ listing ∷ [])
    ≡ (if listing.disabled then disabled_in listings ++ listing.account ∷ [] else disabled_in listings)
disabled_in-push [] listing = grind arith
disabled_in-push (l ∷ ls) listing =
    let rest = disabled_in-push ls listing in
    grind (arith, rest)

-- names stay distinct where the new one is not known
distinct-push : (listings : List Listing) (listing : Listing)
    → HasDistinctNames (accounts_in listings)
    → is_some (account_of listing.account.name (accounts_in listings)) ≡ false
    → HasDistinctNames (accounts_in (listings ++ listing ∷ []))
distinct-push listings listing distinct new =
    subst HasDistinctNames (sym (map-append (λ (l : Listing). l.account) listings (listing ∷ [])))
    (HasDistinctNames-push (accounts_in listings) listing.account distinct (none_from_is_some _ new))

-- what a reader has done so far: the entries before this place describe listings of distinct names, which stand in its two books, and
-- the whole list comes to what the entries that are left come to behind them
pub record SoFar (entries left : List (Option Listing)) (place : ℕ) (book disabled : List Account) : Type 0 where
  pub listings : List Listing
  pub stands : entries ≡ map Some listings ++ left
  pub counts : place ≡ length listings + 1
  pub distinct : HasDistinctNames (accounts_in listings)
  pub in_book : book ≡ enabled listings
  pub in_disabled : disabled ≡ disabled_in listings
  pub goes_on : with_entries 1 [] entries ≡ with_entries place listings left

pub SoFar-start : (entries : List (Option Listing)) (book disabled : List Account) → book ≡ []
    → disabled ≡ [] → SoFar entries entries 1 book disabled
unfolding IsDistinct
SoFar-start entries book disabled no_book no_disabled =
    record { listings = []; stands = refl; counts = refl; distinct = tt; in_book = no_book; in_disabled = no_disabled; goes_on = refl }

-- what is known to the books is known to the listings
known : (entries left : List (Option Listing)) (place : ℕ) (book disabled : List Account)
    (name : List ℕ) (so_far : SoFar entries left place book disabled)
    → is_some (account_of name (accounts_in so_far.listings)) ≡ is_known name book disabled
known entries left place book disabled name so_far =
    is_known-split name so_far.listings
    ∙ sym (ap (λ b. is_known name b disabled) so_far.in_book
    ∙ ap (is_known name (enabled so_far.listings)) so_far.in_disabled)

pub SoFar-next : (entries left : List (Option Listing)) (place : ℕ)
    (book disabled book_after disabled_after : List Account) (listing : Listing)
    → SoFar entries (Some listing ∷ left) place book disabled
    → is_known listing.account.name book disabled ≡ false
    → book_after ≡ (if listing.disabled then book else book ++ listing.account ∷ [])
    → disabled_after ≡ (if listing.disabled then disabled ++ listing.account ∷ [] else disabled)
    → SoFar entries left (place + 1) book_after disabled_after
SoFar-next entries left place book disabled book_after disabled_after listing so_far new to_book to_disabled =
    let unknown = known entries (Some listing ∷ left) place book disabled listing.account.name so_far ∙ new in
    record {
      listings = so_far.listings ++ listing ∷ [];
      stands = so_far.stands ∙ sym (ap (λ front. front ++ left) (map-append Some so_far.listings (listing ∷ []))
          ∙ append_assoc (map Some so_far.listings) (Some listing ∷ []) left);
      counts = omega (arith, so_far.counts, length-append so_far.listings (listing ∷ []));
      distinct = distinct-push so_far.listings listing so_far.distinct unknown;
      in_book = to_book
          ∙ ap (λ b. if listing.disabled then b else b ++ listing.account ∷ []) so_far.in_book
          ∙ sym (enabled-push so_far.listings listing);
      in_disabled = to_disabled
          ∙ ap (λ d. if listing.disabled then d ++ listing.account ∷ [] else d) so_far.in_disabled
          ∙ sym (disabled_in-push so_far.listings listing);
      goes_on = so_far.goes_on
          ∙ ap (λ b. if b then Err DuplicateName else with_entries (place + 1)
          (so_far.listings ++ listing ∷ []) left) unknown;
    }

-- what an answer for the whole list is, from the one for its listings
come_to : (entries : List (Option Listing)) (answer : Result (List Listing) AccountsError)
    → with_entries 1 [] entries ≡ answer
    → listed_accounts entries ≡ answer >>= (λ listings. Ok (enabled listings))
come_to entries answer is = ap (λ a. a >>= (λ listings. Ok (enabled listings))) is

pub SoFar-refused : (entries left : List (Option Listing)) (place : ℕ) (book disabled : List Account)
    → SoFar entries (None ∷ left) place book disabled
    → listed_accounts entries ≡ Err (BadField place)
SoFar-refused entries left place book disabled so_far =
    come_to entries (Err (BadField place)) so_far.goes_on

pub SoFar-duplicate : (entries left : List (Option Listing)) (place : ℕ) (book disabled : List Account)
    (listing : Listing) → SoFar entries (Some listing ∷ left) place book disabled
    → is_known listing.account.name book disabled ≡ true
    → listed_accounts entries ≡ Err DuplicateName
SoFar-duplicate entries left place book disabled listing so_far old =
    let again = known entries (Some listing ∷ left) place book disabled listing.account.name so_far ∙ old in
    come_to entries (Err DuplicateName) (so_far.goes_on
    ∙ ap (λ b. if b then Err DuplicateName else with_entries (place + 1)
    (so_far.listings ++ listing ∷ []) left) again)

pub SoFar-twin : (entries left : List (Option Listing)) (place : ℕ) (book disabled : List Account)
    (listing : Listing) → SoFar entries (Some listing ∷ left) place book disabled
    → is_known listing.account.name book disabled ≡ true → IsTwin entries place
SoFar-twin entries left place book disabled listing so_far old = (
  so_far.listings,
  listing,
  left,
  so_far.stands,
  so_far.counts,
  so_far.distinct,
  known entries (Some listing ∷ left) place book disabled listing.account.name so_far ∙ old,
)

pub SoFar-whole : (entries : List (Option Listing)) (place : ℕ) (book disabled : List Account)
    → SoFar entries [] place book disabled → listed_accounts entries ≡ Ok book
SoFar-whole entries place book disabled so_far =
    come_to entries (Ok so_far.listings) so_far.goes_on ∙ sym (ap Ok so_far.in_book)

pub SoFar-lists : (entries : List (Option Listing)) (place : ℕ) (book disabled : List Account)
    → SoFar entries [] place book disabled → Lists entries book
SoFar-lists entries place book disabled so_far =
    (so_far.listings, so_far.stands ∙ append-nil (map Some so_far.listings), so_far.distinct, so_far.in_book)
