use Rattle.std.proofs.Common.{◌≡◌, ℕ, [], ◌∷◌, ◌++◌, ◌∙◌, true, false, ap, sym, subst, map, filter, refl, arith}
use Rattle.std.specs.Prelude.{None, not, ◌&&◌, if◌then◌else◌}
use Rattle.std.specs.List.Sorted.{IsStrictlySortedBy}
use Rattle.std.specs.Ordering.{nat_cmp}
use Rattle.std.specs.BTreeMap.{is_at, insert_entry}
use Rattle.std.specs.Map.{lookup}
use Rattle.line_words.specs.Table.{ByNumber, put_number, same_number}
use Rattle.lobby_model.specs.State.{Client}
use Rattle.lobby_model.specs.Sessions.{greeted}
use Rattle.lobby_post.specs.Mail.{Mailbox, IsDue, Line, due_for, plain}
use Rattle.lobby_post.specs.Dirty.{Listing, added, idle_of, line_of, listings_of, stands}
use Rattle.lobby_post.proofs.Crowds.{plain-insert, all_inserted, written_in}
use Rattle.lobby_post.proofs.Homes.{known_of_lines, known_of_lists, line-at, same_lines}
use Rattle.lobby_post.proofs.Idle.{idle_inserted}
use Rattle.lobby_post.proofs.Listings.{IsPut, listings_put, with_batch-home, unmarked}
use Rattle.lobby_post.proofs.Waiting.{absent, known_come, waits_come}
use Rattle.lobby_post.proofs.Dues.{none_due}
use Rattle.lobby_post.proofs.Refusals.{on_err}
use Rattle.lobby_post.proofs.clients.Clients.insert.Goals as goal

-- a slot inserted that is listed
module _ (client home : ℕ) (w : Mailbox) (es fs : ByNumber Mailbox) (is : fs ≡ insert_entry nat_cmp es client w)
    (here : w.client.home ≡ home) (listed : w.listed ≡ true) where
  put : IsPut client (record { home = home; listed = true }) (listings_of es) (listings_of fs)
  put = subst (λ (m : Listing). IsPut client m (listings_of es) (listings_of fs)) (λ i. record { home = here i; listed = listed i })
      (listings_put client w es fs (written_in client w es fs is))

  idle : IsStrictlySortedBy nat_cmp (map (λ e. e.0) es) → lookup (is_at (nat_cmp client)) (listings_of es) ≡ None → (h : ℕ)
      → idle_of h (listings_of fs) ≡ idle_of h (listings_of es)
  idle ordered none h =
      let sums = idle_inserted h client es fs w is ordered (unmarked client es none) in
      let busy : ◌≡◌ {A = ℕ} (if same_number w.client.home h && not w.listed then 1 else 0) 0 =
      ap (λ b. if same_number w.client.home h && not b then 1 else 0) listed
      ∙ elim (same_number w.client.home h) as (λ b. ◌≡◌ {A = ℕ} (if b && false then 1 else 0) 0) [ true ↦ refl | false ↦ refl ] in
      omega (arith, sums, busy)

pub returns-clause-ok : goal.returns-clause-ok
returns-clause-ok c =
    rw (← c.self.view_is)
    (ap plain c.in_ok-insert.ensures.entries ∙ plain-insert c.args.client _ c.self.inside.slots
    ∙ ap (put_number (plain c.self.inside.slots) c.args.client) c.in_ok-slot.ensures.client)

pub returns-clause-due : goal.returns-clause-due
returns-clause-due c =
    rw (← c.self.view_is)
    (λ pieces none all. all_inserted (λ q held. IsDue (due_for pieces q) held) c.args.client c.self.inside.slots _ c.in_ok-slot.slot
    (written_in c.args.client c.in_ok-slot.slot c.self.inside.slots _ c.in_ok-insert.ensures.entries)
    (λ hears. c.in_ok-slot.ensures.due ∙ none_due pieces c.args.client none) all)

pub invariant_of-self-2 : goal.invariant_of-self-2
invariant_of-self-2 c = (
  all_inserted (λ q held. held.limit ≡ c.self.inside.limit) c.args.client c.self.inside.slots _ c.in_ok-slot.slot
      (written_in c.args.client c.in_ok-slot.slot c.self.inside.slots _ c.in_ok-insert.ensures.entries) c.in_ok-slot.ensures.limit c.self.invariant.0,
  c.self.invariant.1,
)

pub returns-clause-known : goal.returns-clause-known
returns-clause-known c =
    let es = c.self.inside.slots in
    let here : c.in_ok-slot.slot.client.home ≡ c.args.home =
    ap (λ (k : Client). k.home) c.in_ok-slot.ensures.client ∙ with_batch-home c.self.inside.limit c.args.greeting.now (greeted c.args.ip c.args.home) in
    rw (← c.self.view_is) (λ last above all.
    let known = known_of_lists (listings_of es) c.self.inside.dirty last all in
    known_of_lines _ _ _ (known_come c.args.client c.args.home (listings_of es) _ (line_of c.self.inside.dirty) _ last above known
    (put c.args.client c.args.home c.in_ok-slot.slot es _ c.in_ok-insert.ensures.entries here c.in_ok-slot.ensures.listed)
    (λ h. c.add.ensures h ∙ ap (λ (l : Line). if same_number c.args.home h then added c.args.client l else l) (c.reserve.ensures.kept h))
    c.requires
    (idle c.args.client c.args.home c.in_ok-slot.slot es _ c.in_ok-insert.ensures.entries here c.in_ok-slot.ensures.listed
    c.insert.ensures.was_ordered (absent c.args.client (listings_of es) (line_of c.self.inside.dirty) last above known))))

pub returns-clause-waits : goal.returns-clause-waits
returns-clause-waits c =
    let es = c.self.inside.slots in
    let here : c.in_ok-slot.slot.client.home ≡ c.args.home =
    ap (λ (k : Client). k.home) c.in_ok-slot.ensures.client ∙ with_batch-home c.self.inside.limit c.args.greeting.now (greeted c.args.ip c.args.home) in
    rw (← c.self.view_is) (λ last h above all within.
    ap (λ (l : Line). filter (stands (listings_of c.insert.new.self) h) l.waiting) (line-at c.add.new.self h within)
    ∙ waits_come c.args.client c.args.home (listings_of es) _ (line_of c.self.inside.dirty) (line_of c.add.new.self) last above
    (known_of_lists (listings_of es) c.self.inside.dirty last all)
    (put c.args.client c.args.home c.in_ok-slot.slot es _ c.in_ok-insert.ensures.entries here c.in_ok-slot.ensures.listed)
    (λ k. c.add.ensures k ∙ ap (λ (l : Line). if same_number c.args.home k then added c.args.client l else l) (c.reserve.ensures.kept k))
    h within
    ∙ ap (λ (l : Line). filter (stands (listings_of es) h) l.waiting ++ (if same_number c.args.home h then c.args.client ∷ [] else [])) (sym (line-at c.self.inside.dirty h within)))

pub returns-in_err-reserve-clause-err : goal.returns-in_err-reserve-clause-err
returns-in_err-reserve-clause-err c =
    on_err c.from_residual-in_err-reserve.result (rw (← c.self.view_is)
    (λ i. record { limit = c.self.inside.limit; slots = c.self.inside.slots; lines = same_lines c.self.inside.dirty c.reserve.new.self c.reserve.ensures.kept i }))

pub returns-in_err-slot-clause-err : goal.returns-in_err-slot-clause-err
returns-in_err-slot-clause-err c =
    on_err c.from_residual-in_err-slot.result (rw (← c.self.view_is)
    (λ i. record { limit = c.self.inside.limit; slots = c.self.inside.slots; lines = same_lines c.self.inside.dirty c.reserve.new.self c.reserve.ensures.kept i }))

pub returns-in_err-insert-clause-err : goal.returns-in_err-insert-clause-err
returns-in_err-insert-clause-err c =
    on_err c.from_residual-in_err-insert.result (rw (← c.self.view_is)
    (λ i. record { limit = c.self.inside.limit; slots = c.in_err-insert.ensures.err i; lines = same_lines c.self.inside.dirty c.reserve.new.self c.reserve.ensures.kept i }))
