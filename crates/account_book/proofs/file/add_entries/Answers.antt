use Rattle.std.proofs.Common.{◌≡◌, ◌↔◌, ℕ, ◌+◌, ◌<◌, Bool, true, false, IsTrue, List, [], ◌∷◌, Option, drop, get_or, length, Some, Result, Ok, Err, ap, sym, ◌∙◌, subst, arith}
use Rattle.std.proofs.lemmas.Grind.{common_steps}
use Rattle.std.proofs.lemmas.List.{at_drop_more}
use Rattle.toml.specs.View.{view, items_view}
use Rattle.toml.specs.declared.value.Value.{Value}
use Rattle.account_book.specs.Account.{Account}
use Rattle.account_book.specs.Entries.{Profile, described, descriptions}
use Rattle.account_book.specs.Fields.{shown, shown_contents}
use Rattle.account_book.specs.declared.error.AccountsError.{AccountsError}
use Rattle.account_book.specs.declared.error.AccountsError.TheVariants.{DuplicateName}
use Rattle.account_book.specs.declared.listing.Listing.{Listing}
use Rattle.account_book.specs.File.{entries_in}
use Rattle.account_book.proofs.Listed.{SoFar, SoFar-start, SoFar-next, SoFar-duplicate, SoFar-twin, SoFar-lists}
use Rattle.account_book.proofs.file.add_entries.Goals as goal

-- what the entries from one on describe, where that one describes a listing
described_next : (format : ℕ) (default : Profile) (entries : List Value) (k : ℕ) (entry : Value)
    (listing : Listing) → k < length entries → entry ≡ get_or entries k entry
    → described format default (view entry) ≡ Some listing
    → descriptions format default (items_view (drop k entries))
    ≡ Some listing ∷ descriptions format default (items_view (drop (k + 1) entries))
described_next format default entries k entry listing within is describes =
    let from = λ (left : List Value). descriptions format default (items_view left) in
    at_drop_more from entries k entry within
    ∙ ap (λ first. from (first ∷ drop (k + 1) entries)) (sym is)
    ∙ ap (λ first. first ∷ from (drop (k + 1) entries)) describes

-- a name that was not refused is not known
not_known : (answer : Result Unit AccountsError) (known : Bool)
    → ((answer ≡ Err DuplicateName) ↔ IsTrue known) → answer ≡ Ok tt → known ≡ false
not_known answer known refused fine = grind (arith, common_steps)

-- and one that was refused is known
known_then : (answer : Result Unit AccountsError) (known : Bool)
    → ((answer ≡ Err DuplicateName) ↔ IsTrue known) → answer ≡ Err DuplicateName → known ≡ true
known_then answer known refused told = refused.0 told

-- what was done so far, with the entry at hand as what it describes
at_hand : (all : List (Option Listing)) (format : ℕ) (default : Profile) (entries : List Value)
    (k place : ℕ) (entry : Value) (listing : Listing) (book disabled : List Account)
    → SoFar all (descriptions format default (items_view (drop k entries))) place book disabled
    → k < length entries → entry ≡ get_or entries k entry
    → described format default (view entry) ≡ Some listing
    → SoFar all (Some listing ∷ descriptions format default (items_view (drop (k + 1) entries)))
    place book disabled
at_hand all format default entries k place entry listing book disabled so_far within is describes =
    subst (λ left. SoFar all left place book disabled)
    (described_next format default entries k entry listing within is describes) so_far

pub loop-k-init : goal.loop-k-init
loop-k-init c = SoFar-start _ _ _ c.requires.book c.requires.disabled

pub loop-k-preserved : goal.loop-k-preserved
loop-k-preserved c =
    SoFar-next _ _ _ _ _ _ _ c.in-Some.listing
    (at_hand _ c.args.contents.now.format (shown c.args.contents.now.default)
    c.args.contents.now.entries.now c.loop-k.k _ c.entry-item.result c.in-Some.listing _ _
    c.loop-k.invariant (omega arith) c.entry-item.is (sym c.in-Ok.ensures ∙ c.in-Some.is))
    (not_known _ _ c.add_listing.ensures.duplicate c.in_default-add_listing.is)
    c.in_default-add_listing.ensures.book c.in_default-add_listing.ensures.disabled

pub returns-in-Err-clause-err : goal.returns-in-Err-clause-err
returns-in-Err-clause-err c not_memory =
    let so_far = at_hand _ c.args.contents.now.format (shown c.args.contents.now.default)
    c.args.contents.now.entries.now c.loop-k.k _ c.entry-item.result c.in-Some.listing _ _
    c.loop-k.invariant (omega arith) c.entry-item.is (sym c.in-Ok.ensures ∙ c.in-Some.is) in
    let is : c.in-Err.error ≡ DuplicateName = c.in-Err.ensures.errors not_memory in
    SoFar-duplicate _ _ _ _ _ c.in-Some.listing so_far
    (known_then _ _ c.in-Err.ensures.duplicate (ap Err is)) ∙ sym (ap Err is)

pub returns-in-Err-clause-twin : goal.returns-in-Err-clause-twin
returns-in-Err-clause-twin c is =
    let so_far = at_hand _ c.args.contents.now.format (shown c.args.contents.now.default)
    c.args.contents.now.entries.now c.loop-k.k _ c.entry-item.result c.in-Some.listing _ _
    c.loop-k.invariant (omega arith) c.entry-item.is (sym c.in-Ok.ensures ∙ c.in-Some.is) in
    SoFar-twin _ _ _ _ _ c.in-Some.listing so_far (known_then _ _ c.in-Err.ensures.duplicate (ap Err is))

pub returns-clause-listed : goal.returns-clause-listed
returns-clause-listed c =
    let none : drop c.loop-k.k c.args.contents.now.entries.now ≡ [] = grind (arith, common_steps) in
    SoFar-lists _ _ _ _ (subst (λ left. SoFar (entries_in (shown_contents c.args.contents.now))
    (descriptions c.args.contents.now.format (shown c.args.contents.now.default) (items_view left))
    (c.loop-k.k + 1) c.loop-k.book c.loop-k.disabled) none c.loop-k.invariant)
