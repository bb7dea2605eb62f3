-- The accounts of the entries of a file, written one after another.
use Rattle.std.proofs.Common.{◌≡◌, ℕ, ◌+◌, ◌<◌, Bool, true, false, List, [], ◌∷◌, ◌++◌, drop, get_or, length, map, Option, Some, is_some, Ok, Err, refl, sym, ap, ◌∙◌, subst, arith, append_assoc, append-nil, if◌then◌else◌}
use Rattle.std.specs.Str.{is_utf8}
use Rattle.std.proofs.lemmas.List.{at_drop_more, map-append}
use Rattle.toml.specs.View.{view, items_view}
use Rattle.toml.specs.declared.value.Value.{Value}
use Rattle.toml_fields.specs.Fields.{◌>>=◌}
use Rattle.account_book.specs.Account.{Account}
use Rattle.account_book.specs.Book.{account_of}
use Rattle.account_book.specs.Entries.{Profile, described, descriptions}
use Rattle.account_book.specs.File.{accounts_in, enabled, listed_accounts, with_entries}
use Rattle.account_book.specs.declared.error.AccountsError.TheVariants.{DuplicateName}
use Rattle.account_book.specs.declared.listing.Listing.{Listing}
use Rattle.record_lines.specs.Head.{gap_behind, IsAccountsText}
use Rattle.record_lines.specs.Masks.{all_hidden, hidden}
use Rattle.record_lines.proofs.Spelled.{feed_utf8, gap_utf8, none_utf8}
use Rattle.record_lines.proofs.Tables.{joined}

-- one more account at the end of a file
gap_valid : (old : List ℕ) → is_utf8 (gap_behind old) ≡ true
gap_valid [] = none_utf8
gap_valid (b ∷ old) = feed_utf8

pub appended : (accounts : List Account) (account : Account) (old gap mid text new : List ℕ)
    → IsAccountsText accounts old → gap ≡ gap_behind old → mid ≡ old ++ gap → IsAccountsText (account ∷ []) text → new ≡ mid ++ text
    → IsAccountsText (accounts ++ account ∷ []) new
appended accounts account old gap mid text new before between at last whole =
    let same : new ≡ old ++ (gap_behind old ++ text) =
    whole ∙ ap (λ (m : List ℕ). m ++ text) (at ∙ ap (λ (g : List ℕ). old ++ g) between) ∙ append_assoc old (gap_behind old) text in
    let hide : all_hidden (accounts ++ account ∷ []) ≡ all_hidden accounts ++ hidden account ∷ [] = map-append hidden accounts (account ∷ []) in
    rw (same, hide) (
      joined (all_hidden accounts) (hidden account) old text before.0 last.0,
      gap_utf8 old (gap_behind old) text before.1 (gap_valid old) last.1,
    )

-- what was written so far: the entries before those that are left describe listings, of which those that are not disabled stand there
pub record Made (entries left : List (Option Listing)) (file : List ℕ) : Type 0 where
  pub listings : List Listing
  pub stands : entries ≡ map Some listings ++ left
  pub lists : IsAccountsText (enabled listings) file

pub Made-start : (entries : List (Option Listing)) (file : List ℕ) → file ≡ [] → Made entries entries file
Made-start entries file none = record { listings = []; stands = refl; lists = rw none (refl, none_utf8) }

enabled-push : (listings : List Listing) (listing : Listing)
    → enabled (listings ++ listing ∷ [])
    ≡ (if listing.disabled then enabled listings else enabled listings ++ listing.account ∷ [])
enabled-push [] listing = grind arith
enabled-push (l ∷ ls) listing =
    let rest = enabled-push ls listing in
    grind (arith, rest)

made_next : (entries left : List (Option Listing)) (listing : Listing) (old new : List ℕ) → Made entries (Some listing ∷ left) old
    → ((accounts : List Account) → IsAccountsText accounts old
    → IsAccountsText (if listing.disabled then accounts else accounts ++ listing.account ∷ []) new)
    → Made entries left new
made_next entries left listing old new so_far put =
    record {
      listings = so_far.listings ++ listing ∷ [];
      stands = so_far.stands ∙ sym (ap (λ (front : List (Option Listing)). front ++ left) (map-append Some so_far.listings (listing ∷ []))
          ∙ append_assoc (map Some so_far.listings) (Some listing ∷ []) left);
      lists = subst (λ accounts. IsAccountsText accounts new) (sym (enabled-push so_far.listings listing)) (put (enabled so_far.listings) so_far.lists);
    }

-- what the entries from one on describe, where that one describes a listing
described_next : (format : ℕ) (default : Profile) (entries : List Value) (k : ℕ) (entry : Value)
    (listing : Listing) → k < length entries → entry ≡ get_or entries k entry
    → described format default (view entry) ≡ Some listing
    → descriptions format default (items_view (drop k entries))
    ≡ Some listing ∷ descriptions format default (items_view (drop (k + 1) entries))
described_next format default entries k entry listing within is describes =
    let from = λ (left : List Value). descriptions format default (items_view left) in
    at_drop_more from entries k entry within
    ∙ ap (λ first. from (first ∷ drop (k + 1) entries)) (sym is)
    ∙ ap (λ first. first ∷ from (drop (k + 1) entries)) describes

pub Made-next : (all : List (Option Listing)) (format : ℕ) (default : Profile) (entries : List Value)
    (k : ℕ) (entry : Value) (listing : Listing) (old new : List ℕ)
    → Made all (descriptions format default (items_view (drop k entries))) old
    → k < length entries → entry ≡ get_or entries k entry
    → described format default (view entry) ≡ Some listing
    → ((accounts : List Account) → IsAccountsText accounts old
    → IsAccountsText (if listing.disabled then accounts else accounts ++ listing.account ∷ []) new)
    → Made all (descriptions format default (items_view (drop (k + 1) entries))) new
Made-next all format default entries k entry listing old new so_far within is describes put =
    made_next all (descriptions format default (items_view (drop (k + 1) entries))) listing old new
    (subst (λ left. Made all left old) (described_next format default entries k entry listing within is describes) so_far) put

counted : (place : ℕ) (before listings : List Listing) (accounts : List Account)
    → (with_entries place before (map Some listings) >>= (λ all. Ok (enabled all))) ≡ Ok accounts
    → accounts ≡ enabled (before ++ listings)
counted place before [] accounts is =
    let same : accounts ≡ enabled before = cc in
    same ∙ ap enabled (sym (append-nil before))
counted place before (l ∷ listings) accounts is =
    by (is_some (account_of l.account.name (accounts_in before))) (counted (place + 1) (before ++ l ∷ []) listings accounts) is
    ∙ ap enabled (append_assoc before (l ∷ []) listings)
  where
    by : (old : Bool)
        → ((with_entries (place + 1) (before ++ l ∷ []) (map Some listings) >>= (λ all. Ok (enabled all))) ≡ Ok accounts
        → accounts ≡ enabled ((before ++ l ∷ []) ++ listings))
        → ((if old then Err DuplicateName else with_entries (place + 1) (before ++ l ∷ []) (map Some listings)) >>= (λ all. Ok (enabled all))) ≡ Ok accounts
        → accounts ≡ enabled ((before ++ l ∷ []) ++ listings)
    by true more is = absurd (cc)
    by false more is = more is

pub Made-whole : (entries : List (Option Listing)) (file : List ℕ) (accounts : List Account) → Made entries [] file
    → listed_accounts entries ≡ Ok accounts → IsAccountsText accounts file
Made-whole entries file accounts so_far is =
    let all : entries ≡ map Some so_far.listings = so_far.stands ∙ append-nil (map Some so_far.listings) in
    let same : accounts ≡ enabled so_far.listings = counted 1 [] so_far.listings accounts (rw (← all) is) in
    rw same so_far.lists
