use Rattle.std.proofs.Common.{◌≡◌, ◌+◌, ◌∙◌, ℕ, Bool, ap, sym, subst, refl, filter}
use Rattle.std.specs.Prelude.{Option, Some, None, if◌then◌else◌}
use Rattle.std.specs.Option.{option_map}
use Rattle.std.specs.Ordering.{nat_cmp}
use Rattle.std.specs.BTreeMap.{is_at}
use Rattle.std.specs.Map.{lookup}
use Rattle.lobby_post.specs.Mail.{Mailbox, IsDue, Line, IsReady, due_for}
use Rattle.lobby_post.specs.Dirty.{Listing, idle_of, is_idle, line_of, listing_of, listings_of, stands}
use Rattle.lobby_post.specs.Crowd.{all_but_client, line_at, lines_of}
use Rattle.lobby_post.proofs.Crowds.{plain_removed, all_removed, removed_from}
use Rattle.lobby_post.proofs.Homes.{known_of_lines, known_of_lists, line-at}
use Rattle.lobby_post.proofs.Idle.{idle_removed, idle_unremoved}
use Rattle.lobby_post.proofs.Listings.{listings_taken}
use Rattle.lobby_post.proofs.Waiting.{known_gone, known_unmoved, waits_gone, waits_without}
use Rattle.lobby_post.proofs.clients.Clients.remove.Goals as goal

-- the slot of which a listing tells
listed_slot : (o : Option Mailbox) (home : ℕ) (listed : Bool) → ◌≡◌ {A = Option (ℕ × Bool)} (Some (home, listed)) (option_map (λ (held : Mailbox). (held.client.home, held.listed)) o)
    → (x : Mailbox) × (o ≡ Some x) × (listing_of x ≡ record { home = home; listed = listed })
listed_slot None home listed is = absurd (cc)
listed_slot (Some x) home listed is =
    let pair : ◌≡◌ {A = ℕ × Bool} (x.client.home, x.listed) (home, listed) = cc in
    (x, refl, λ i. record { home = (pair i).0; listed = (pair i).1 })

no_slot : (o : Option Mailbox) → ◌≡◌ {A = Option (ℕ × Bool)} None (option_map (λ (held : Mailbox). (held.client.home, held.listed)) o) → o ≡ None
no_slot None is = refl
no_slot (Some x) is = absurd (cc)

pub returns-in-Some-clause-clients : goal.returns-in-Some-clause-clients
returns-in-Some-clause-clients c = rw (← c.self.view_is) (plain_removed c.args.client c.self.inside.slots c.remove.new.self c.remove.ensures.was_ordered c.remove.ensures.entries)

pub returns-in-Some-clause-due : goal.returns-in-Some-clause-due
returns-in-Some-clause-due c =
    rw (← c.self.view_is) (λ pieces all. all_removed
    (λ q held. IsDue (due_for pieces q) held) c.args.client c.self.inside.slots c.remove.new.self (removed_from c.args.client c.self.inside.slots c.remove.new.self c.remove.ensures.was_ordered c.remove.ensures.entries) all)

pub returns-in-Some-clause-ready : goal.returns-in-Some-clause-ready
returns-in-Some-clause-ready c =
    rw (← c.self.view_is) (λ all. all_removed (λ q held. IsReady held) c.args.client c.self.inside.slots c.remove.new.self (removed_from c.args.client c.self.inside.slots c.remove.new.self c.remove.ensures.was_ordered c.remove.ensures.entries) all)

pub invariant_of-self : goal.invariant_of-self
invariant_of-self c = (
  all_removed (λ q held. held.limit ≡ c.self.inside.limit) c.args.client c.self.inside.slots c.remove.new.self
      (removed_from c.args.client c.self.inside.slots c.remove.new.self c.remove.ensures.was_ordered c.remove.ensures.entries) c.self.invariant.0,
  c.self.invariant.1,
)

pub returns-in_default-clause-clients : goal.returns-in_default-clause-clients
returns-in_default-clause-clients c = rw (← c.self.view_is) (plain_removed c.args.client c.self.inside.slots c.remove.new.self c.remove.ensures.was_ordered c.remove.ensures.entries)

pub returns-in_default-clause-due : goal.returns-in_default-clause-due
returns-in_default-clause-due c =
    rw (← c.self.view_is) (λ pieces all. all_removed
    (λ q held. IsDue (due_for pieces q) held) c.args.client c.self.inside.slots c.remove.new.self (removed_from c.args.client c.self.inside.slots c.remove.new.self c.remove.ensures.was_ordered c.remove.ensures.entries) all)

pub returns-in_default-clause-ready : goal.returns-in_default-clause-ready
returns-in_default-clause-ready c =
    rw (← c.self.view_is) (λ all. all_removed (λ q held. IsReady held) c.args.client c.self.inside.slots c.remove.new.self (removed_from c.args.client c.self.inside.slots c.remove.new.self c.remove.ensures.was_ordered c.remove.ensures.entries) all)

pub invariant_of-self-in_default : goal.invariant_of-self-in_default
invariant_of-self-in_default c = (
  all_removed (λ q held. held.limit ≡ c.self.inside.limit) c.args.client c.self.inside.slots c.remove.new.self
      (removed_from c.args.client c.self.inside.slots c.remove.new.self c.remove.ensures.was_ordered c.remove.ensures.entries) c.self.invariant.0,
  c.self.invariant.1,
)

pub returns-in-Some-clause-known : goal.returns-in-Some-clause-known
returns-in-Some-clause-known c =
    let es = c.self.inside.slots in
    let x = listed_slot (lookup (is_at (nat_cmp c.args.client)) es) c.in-Some.home c.in-Some.listed c.in-Some.ensures in
    rw (← c.self.view_is) (λ last all.
    known_of_lines _ _ _ (known_gone c.args.client (listings_of es) (listings_of c.remove.new.self)
    (listings_taken c.args.client es c.remove.new.self (removed_from c.args.client es c.remove.new.self c.remove.ensures.was_ordered c.remove.ensures.entries))
    (record { home = c.in-Some.home; listed = c.in-Some.listed }) (line_of c.self.inside.dirty) (line_of c.leave.new.self) c.leave.ensures.own c.leave.ensures.others
    last
    (λ h. subst (λ (m : Listing). idle_of h (listings_of c.remove.new.self) + (if is_idle h m then 1 else 0) ≡ idle_of h (listings_of es)) x.2
    (idle_removed h c.args.client es c.remove.new.self x.0 c.remove.ensures.entries x.1))
    (known_of_lists (listings_of es) c.self.inside.dirty last all)))

pub returns-in-Some-clause-waits : goal.returns-in-Some-clause-waits
returns-in-Some-clause-waits c =
    let es = c.self.inside.slots in
    rw (← c.self.view_is) (λ h within.
    ap (λ (l : Line). filter (stands (listings_of c.remove.new.self) h) l.waiting) (line-at c.leave.new.self h within)
    ∙ waits_gone c.args.client (listings_of es) (listings_of c.remove.new.self)
    (listings_taken c.args.client es c.remove.new.self (removed_from c.args.client es c.remove.new.self c.remove.ensures.was_ordered c.remove.ensures.entries))
    (record { home = c.in-Some.home; listed = c.in-Some.listed }) (line_of c.self.inside.dirty) (line_of c.leave.new.self) c.leave.ensures.own c.leave.ensures.others h
    ∙ ap (λ (l : Line). all_but_client c.args.client (filter (stands (listings_of es) h) l.waiting)) (sym (line-at c.self.inside.dirty h within)))

pub returns-in_default-clause-known : goal.returns-in_default-clause-known
returns-in_default-clause-known c =
    let es = c.self.inside.slots in
    rw (← c.self.view_is) (λ last all.
    known_unmoved c.args.client (listings_of es) (listings_of c.remove.new.self)
    (listings_taken c.args.client es c.remove.new.self (removed_from c.args.client es c.remove.new.self c.remove.ensures.was_ordered c.remove.ensures.entries))
    (line_at (lines_of c.self.inside.dirty)) last
    (λ h. idle_unremoved h c.args.client es c.remove.new.self c.remove.ensures.entries
    (no_slot (lookup (is_at (nat_cmp c.args.client)) es) c.in_default.ensures)) all)

pub returns-in_default-clause-waits : goal.returns-in_default-clause-waits
returns-in_default-clause-waits c =
    let es = c.self.inside.slots in
    rw (← c.self.view_is) (λ h within.
    waits_without c.args.client (listings_of es) (listings_of c.remove.new.self)
    (listings_taken c.args.client es c.remove.new.self (removed_from c.args.client es c.remove.new.self c.remove.ensures.was_ordered c.remove.ensures.entries))
    h (line_at (lines_of c.self.inside.dirty) h).waiting)
