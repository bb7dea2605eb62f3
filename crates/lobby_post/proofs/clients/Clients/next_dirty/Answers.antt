use Rattle.std.proofs.Common.{◌≡◌, ◌∙◌, ◌+◌, ℕ, ◌∷◌, ap, sym, subst, refl, filter}
use Rattle.std.specs.Prelude.{false, Some, if◌then◌else◌}
use Rattle.std.specs.Ordering.{nat_cmp}
use Rattle.std.specs.BTreeMap.{is_at}
use Rattle.std.specs.Map.{lookup, set_value}
use Rattle.line_words.specs.Table.{ByNumber}
use Rattle.line_words.proofs.Ties.{none_of}
use Rattle.lobby_post.specs.Mail.{Mailbox, IsReady, Line}
use Rattle.lobby_post.specs.Dirty.{idle_of, is_idle, line_of, listing_of, listings_of, stands}
use Rattle.lobby_model.specs.State.{is_live}
use Rattle.lobby_post.proofs.Crowds.{written_through, due_kept}
use Rattle.lobby_post.proofs.Homes.{known_of_lines, known_of_lists, line-at}
use Rattle.lobby_post.proofs.Idle.{idle_written}
use Rattle.lobby_post.proofs.Listings.{IsPut, listings_put, placed, stands_slot}
use Rattle.lobby_post.proofs.Rounds.{limits_next, plain_same, ready_next}
use Rattle.lobby_post.proofs.Waiting.{known_first, known_nobody, none_waits, waits_first, waits_nobody, waits_others}
use Rattle.lobby_post.proofs.clients.Clients.next_dirty.Goals as goal
use Rattle.lobby_post.proofs.clients.Clients.next_dirty.Goals.{in-Some, in_default}

-- a slot whose client does not wait any more
module _ (c : ℕ) (x w : Mailbox) (es : ByNumber Mailbox) (found : Some x ≡ lookup (is_at (nat_cmp c)) es) (is : w ≡ record x { listed = false }) where
  put : IsPut c (record { home = x.client.home; listed = false }) (listings_of es) (listings_of (set_value (is_at (nat_cmp c)) es w))
  put = subst (λ (h : Mailbox). IsPut c (listing_of h) (listings_of es) (listings_of (set_value (is_at (nat_cmp c)) es w))) is
      (listings_put c w es _ (written_through c x w es found))

  idle : (h : ℕ) → idle_of h (listings_of (set_value (is_at (nat_cmp c)) es w)) + (if is_idle h (listing_of x) then 1 else 0)
      ≡ idle_of h (listings_of es) + (if is_idle h (record { home = x.client.home; listed = false }) then 1 else 0)
  idle h = subst (λ (k : Mailbox). idle_of h (listings_of (set_value (is_at (nat_cmp c)) es w)) + (if is_idle h (listing_of x) then 1 else 0)
      ≡ idle_of h (listings_of es) + (if is_idle h (listing_of k) then 1 else 0)) is (idle_written h c es _ x w refl (sym found))

pub returns-in_err-client-clause-due : goal.returns-in_err-client-clause-due
returns-in_err-client-clause-due c = rw (← c.self.view_is) (λ pieces all. all)

pub invariant_of-self-2 : goal.invariant_of-self-2
invariant_of-self-2 c =
    elim c.match-get_mut.branch [
      | in-Some w ↦ rw w.self-inside-is (
        (limits_next c.self.inside.limit c.in_ok-client.client w.in-Some.slot.now w.unlist.new.self c.self.inside.slots _
            (written_through c.in_ok-client.client w.in-Some.slot.now w.unlist.new.self c.self.inside.slots w.in-Some.ensures.value)
            w.in-Some.ensures.value (ap (λ (h : Mailbox). h.limit) w.unlist.ensures) c.self.invariant.0),
        c.self.invariant.1,
      )
      | in_default w ↦ rw w.self-inside-is c.self.invariant
    ]

pub returns-clause-clients : goal.returns-clause-clients
returns-clause-clients c =
    rw (← c.self.view_is) (elim c.match-get_mut.branch [
      | in-Some w ↦ rw w.self-inside-is
          (plain_same c.in_ok-client.client w.in-Some.slot.now w.unlist.new.self c.self.inside.slots _ refl w.in-Some.ensures.value
          (ap (λ (h : Mailbox). h.client) w.unlist.ensures))
      | in_default w ↦ rw w.self-inside-is refl
    ])

pub returns-clause-due : goal.returns-clause-due
returns-clause-due c =
    rw (← c.self.view_is) (λ pieces all. elim c.match-get_mut.branch [
      | in-Some w ↦ rw w.self-inside-is
          (due_kept pieces c.in_ok-client.client w.in-Some.slot.now w.unlist.new.self c.self.inside.slots _
          (written_through c.in_ok-client.client w.in-Some.slot.now w.unlist.new.self c.self.inside.slots w.in-Some.ensures.value)
          w.in-Some.ensures.value (λ hears. ap (λ (h : Mailbox). is_live h.client) (sym w.unlist.ensures) ∙ hears)
          (ap (λ (h : Mailbox). h.due) w.unlist.ensures) all)
      | in_default w ↦ rw w.self-inside-is all
    ])

pub returns-in_err-client-clause-ready : goal.returns-in_err-client-clause-ready
returns-in_err-client-clause-ready c = rw (← c.self.view_is) (λ all. all)

pub returns-in_err-client-clause-known : goal.returns-in_err-client-clause-known
returns-in_err-client-clause-known c =
    let es = c.self.inside.slots in
    rw (← c.self.view_is) (λ last all. known_of_lines _ _ _
    (known_nobody c.args.home (listings_of es) (line_of c.self.inside.dirty) (line_of c.next.new.self)
    c.in_err-client.ensures.others c.in_err-client.ensures.own last (known_of_lists (listings_of es) c.self.inside.dirty last all)))

pub returns-in_err-client-clause-first : goal.returns-in_err-client-clause-first
returns-in_err-client-clause-first c =
    let es = c.self.inside.slots in
    rw (c.from_residual.ensures, ← c.self.view_is)
    (ap (λ (l : Line). filter (stands (listings_of es) c.args.home) l.waiting) (line-at c.self.inside.dirty c.args.home c.requires)
    ∙ waits_nobody c.args.home (listings_of es) (line_of c.self.inside.dirty) (line_of c.next.new.self)
    c.in_err-client.ensures.others c.in_err-client.ensures.own
    ∙ ap (λ (l : Line). filter (stands (listings_of es) c.args.home) l.waiting) (sym (line-at c.next.new.self c.args.home c.requires)))

pub returns-in_err-client-clause-nobody : goal.returns-in_err-client-clause-nobody
returns-in_err-client-clause-nobody c =
    let es = c.self.inside.slots in
    rw (c.from_residual.ensures, ← c.self.view_is)
    (ap (λ (l : Line). filter (stands (listings_of es) c.args.home) l.waiting) (line-at c.self.inside.dirty c.args.home c.requires)
    ∙ none_waits c.args.home (listings_of es) (line_of c.self.inside.dirty) (line_of c.next.new.self) c.in_err-client.ensures.others c.in_err-client.ensures.own)

pub returns-in_err-client-clause-others : goal.returns-in_err-client-clause-others
returns-in_err-client-clause-others c =
    let es = c.self.inside.slots in
    rw (← c.self.view_is) (λ h within other.
    ap (λ (l : Line). filter (stands (listings_of es) h) l.waiting)
    (line-at c.next.new.self h within ∙ c.in_err-client.ensures.others h other ∙ sym (line-at c.self.inside.dirty h within)))

pub returns-clause-ready : goal.returns-clause-ready
returns-clause-ready c =
    rw (← c.self.view_is) (λ all. elim c.match-get_mut.branch [
      | in-Some w ↦ rw w.self-inside-is
          (ready_next c.in_ok-client.client w.in-Some.slot.now w.unlist.new.self c.self.inside.slots _
          (written_through c.in_ok-client.client w.in-Some.slot.now w.unlist.new.self c.self.inside.slots w.in-Some.ensures.value) w.in-Some.ensures.value
          (subst (λ (h : Mailbox). IsReady h) (sym w.unlist.ensures) (all c.in_ok-client.client w.in-Some.slot.now (sym w.in-Some.ensures.value))) all)
      | in_default w ↦ rw w.self-inside-is all
    ])

pub returns-clause-known : goal.returns-clause-known
returns-clause-known c =
    let es = c.self.inside.slots in
    rw (← c.self.view_is) (λ last all. elim c.match-get_mut.branch [
      | in-Some w ↦ rw w.self-inside-is
          (known_of_lines _ _ _
          (known_first c.args.home (listings_of es) (line_of c.self.inside.dirty) (line_of c.next.new.self) c.in_ok-client.ensures.others
          c.in_ok-client.client (listing_of w.in-Some.slot.now) _ c.in_ok-client.ensures.own
          (placed c.in_ok-client.client es w.in-Some.slot.now (sym w.in-Some.ensures.value))
          (put c.in_ok-client.client w.in-Some.slot.now w.unlist.new.self es w.in-Some.ensures.value w.unlist.ensures)
          last c.requires (known_of_lists (listings_of es) c.self.inside.dirty last all)
          (idle c.in_ok-client.client w.in-Some.slot.now w.unlist.new.self es w.in-Some.ensures.value w.unlist.ensures)))
      | in_default w ↦
          let there = stands_slot c.args.home c.in_ok-client.client es c.in_ok-client.ensures.own.passes in
          let none = none_of c.get_mut.result w.in_default.not-Some ∙ c.get_mut.ensures.value in
          absurd (cc (there.1, none))
    ])

pub returns-clause-first : goal.returns-clause-first
returns-clause-first c =
    let es = c.self.inside.slots in
    rw (← c.self.view_is)
    (ap (λ (l : Line). filter (stands (listings_of es) c.args.home) l.waiting) (line-at c.self.inside.dirty c.args.home c.requires)
    ∙ elim c.match-get_mut.branch [
      | in-Some w ↦ rw w.self-inside-is
          (waits_first c.args.home (listings_of es) (line_of c.self.inside.dirty) (line_of c.next.new.self) c.in_ok-client.ensures.others
          c.in_ok-client.client (listing_of w.in-Some.slot.now) _ c.in_ok-client.ensures.own
          (placed c.in_ok-client.client es w.in-Some.slot.now (sym w.in-Some.ensures.value))
          (put c.in_ok-client.client w.in-Some.slot.now w.unlist.new.self es w.in-Some.ensures.value w.unlist.ensures)
          ∙ ap (λ (l : Line). c.in_ok-client.client ∷ filter (stands (listings_of (set_value (is_at (nat_cmp c.in_ok-client.client)) es w.unlist.new.self)) c.args.home) l.waiting)
          (sym (line-at c.next.new.self c.args.home c.requires)))
      | in_default w ↦
          let there = stands_slot c.args.home c.in_ok-client.client es c.in_ok-client.ensures.own.passes in
          let none = none_of c.get_mut.result w.in_default.not-Some ∙ c.get_mut.ensures.value in
          absurd (cc (there.1, none))
    ])

pub returns-clause-others : goal.returns-clause-others
returns-clause-others c =
    let es = c.self.inside.slots in
    rw (← c.self.view_is) (λ h within other. elim c.match-get_mut.branch [
      | in-Some w ↦ rw w.self-inside-is
          (ap (λ (l : Line). filter (stands (listings_of (set_value (is_at (nat_cmp c.in_ok-client.client)) es w.unlist.new.self)) h) l.waiting)
          (line-at c.next.new.self h within)
          ∙ waits_others c.args.home (listings_of es) (line_of c.self.inside.dirty) (line_of c.next.new.self) c.in_ok-client.ensures.others
          c.in_ok-client.client (listing_of w.in-Some.slot.now) _ c.in_ok-client.ensures.own
          (placed c.in_ok-client.client es w.in-Some.slot.now (sym w.in-Some.ensures.value))
          (put c.in_ok-client.client w.in-Some.slot.now w.unlist.new.self es w.in-Some.ensures.value w.unlist.ensures) h other
          ∙ ap (λ (l : Line). filter (stands (listings_of es) h) l.waiting) (sym (line-at c.self.inside.dirty h within)))
      | in_default w ↦
          let there = stands_slot c.args.home c.in_ok-client.client es c.in_ok-client.ensures.own.passes in
          let none = none_of c.get_mut.result w.in_default.not-Some ∙ c.get_mut.ensures.value in
          absurd (cc (there.1, none))
    ])
