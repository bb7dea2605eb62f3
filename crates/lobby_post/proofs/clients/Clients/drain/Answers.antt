use Rattle.std.proofs.Common.{◌≡◌, ◌∙◌, ◌++◌, [], ap, sym, subst, refl, cond, length, min, take, drop, arith}
use Rattle.std.specs.Prelude.{Some}
use Rattle.std.specs.Ordering.{nat_cmp}
use Rattle.std.specs.BTreeMap.{is_at}
use Rattle.std.specs.Map.{lookup}
use Rattle.std.proofs.lemmas.Option.{same_Some, none-some}
use Rattle.lobby_model.proofs.Delivered.{same_itself}
use Rattle.lobby_post.specs.Mail.{Mailbox}
use Rattle.lobby_model.specs.State.{Client, is_live}
use Rattle.lobby_model.specs.Sessions.{drained}
use Rattle.lobby_post.specs.Unread.{unread_in, is_over}
use Rattle.lobby_post.proofs.Crowds.{written_through, due_kept, plain-at, plain-none, plain-at-written, plain_changed, plain_unchanged}
use Rattle.lobby_post.proofs.Listed.{listings_kept}
use Rattle.lobby_post.proofs.Rounds.{limits_next}
use Rattle.lobby_post.proofs.clients.Clients.drain.Goals as goal

pub returns-in-Some-clause-count : goal.returns-in-Some-clause-count
returns-in-Some-clause-count c =
    rw (← c.self.view_is) (c.drain-count.ensures.count
    ∙ ap (λ o. min (length (unread_in o)) (length c.args.into.now))
    (sym (plain-at c.args.client c.in-Some.slot.now c.self.inside.slots c.in-Some.ensures.value)))

pub returns-in-None-clause-count : goal.returns-in-None-clause-count
returns-in-None-clause-count c =
    rw (← c.self.view_is) (rw (plain-none c.args.client c.self.inside.slots c.in-None.ensures.value) (omega arith))

pub returns-in-Some-clause-given : goal.returns-in-Some-clause-given
returns-in-Some-clause-given c =
    rw (← c.self.view_is) (c.drain-count.ensures.given
    ∙ ap (λ o. take c.drain-count.result (unread_in o) ++ drop c.drain-count.result c.args.into.now)
    (sym (plain-at c.args.client c.in-Some.slot.now c.self.inside.slots c.in-Some.ensures.value)))

pub returns-in-Some-clause-finished : goal.returns-in-Some-clause-finished
returns-in-Some-clause-finished c =
    c.is_over.ensures ∙ ap is_over (sym (plain-at-written c.args.client c.drain-count.new.self c.self.inside.slots _
    (written_through c.args.client c.in-Some.slot.now c.drain-count.new.self c.self.inside.slots c.in-Some.ensures.value)))

pub returns-in-None-clause-finished : goal.returns-in-None-clause-finished
returns-in-None-clause-finished c =
    ap is_over (sym (plain-none c.args.client c.self.inside.slots c.in-None.ensures.value))

pub returns-in-Some-clause-clients : goal.returns-in-Some-clause-clients
returns-in-Some-clause-clients c =
    rw (← c.self.view_is) (plain_changed c.args.client c.self.inside.slots
    (drained (length c.args.into.now)) c.in-Some.slot.now c.drain-count.new.self _ c.get_mut.ensures.ordered
    refl c.in-Some.ensures.value c.drain-count.ensures.client)

pub returns-in-None-clause-clients : goal.returns-in-None-clause-clients
returns-in-None-clause-clients c =
    rw (← c.self.view_is) (plain_unchanged c.args.client c.self.inside.slots (drained (length c.args.into.now)) c.in-None.ensures.value)

pub returns-in-Some-clause-due : goal.returns-in-Some-clause-due
returns-in-Some-clause-due c =
    rw (← c.self.view_is) (λ pieces all. due_kept pieces c.args.client c.in-Some.slot.now c.drain-count.new.self c.self.inside.slots _
    (written_through c.args.client c.in-Some.slot.now c.drain-count.new.self c.self.inside.slots c.in-Some.ensures.value) c.in-Some.ensures.value
    (λ hears. ap is_live (sym c.drain-count.ensures.client) ∙ hears) c.drain-count.ensures.due all)

pub returns-in-None-clause-due : goal.returns-in-None-clause-due
returns-in-None-clause-due c = rw (← c.self.view_is) (λ pieces all. all)

pub invariant_of-self : goal.invariant_of-self
invariant_of-self c = (
  limits_next c.self.inside.limit c.args.client c.in-Some.slot.now c.drain-count.new.self c.self.inside.slots _
      (written_through c.args.client c.in-Some.slot.now c.drain-count.new.self c.self.inside.slots c.in-Some.ensures.value)
      c.in-Some.ensures.value c.drain-count.ensures.limit c.self.invariant.0,
  c.self.invariant.1,
)

pub returns-in-Some-clause-listings : goal.returns-in-Some-clause-listings
returns-in-Some-clause-listings c =
    rw (← c.self.view_is)
    (listings_kept c.args.client c.in-Some.slot.now c.drain-count.new.self c.self.inside.slots _ refl c.in-Some.ensures.value
    (ap (λ (client : Client). client.home) c.drain-count.ensures.client) c.drain-count.ensures.listed)

pub returns-in-Some-clause-lines : goal.returns-in-Some-clause-lines
returns-in-Some-clause-lines c = rw (← c.self.view_is) refl

pub returns-in-None-clause-listings : goal.returns-in-None-clause-listings
returns-in-None-clause-listings c = rw (← c.self.view_is) refl

pub returns-in-None-clause-lines : goal.returns-in-None-clause-lines
returns-in-None-clause-lines c = rw (← c.self.view_is) refl

pub returns-in-Some-clause-given_back : goal.returns-in-Some-clause-given_back
returns-in-Some-clause-given_back c = λ held found.
    let at : Some c.drain-count.new.self ≡ Some held =
    sym (written_through c.args.client c.in-Some.slot.now c.drain-count.new.self c.self.inside.slots c.in-Some.ensures.value c.args.client
    ∙ ap (λ b. cond b (Some c.drain-count.new.self) (lookup (is_at (nat_cmp c.args.client)) c.self.inside.slots)) (same_itself c.args.client)) ∙ found in
    subst (λ (h : Mailbox). h.client.unread ≡ [] → (h.spare ≡ 0) × (h.spare_pieces ≡ 0)) (same_Some c.drain-count.new.self held at) c.drain-count.ensures.given_back

pub returns-in-None-clause-given_back : goal.returns-in-None-clause-given_back
returns-in-None-clause-given_back c = λ held found. absurd (none-some held (c.in-None.ensures.value ∙ found))
