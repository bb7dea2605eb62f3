-- For a client that is neither cut nor removed, what its drains took and what it has not read are all that was put to it.
use Rattle.std.proofs.Common.{Bool, ◌≡◌, ℕ, ◌+◌, ◌<◌, ◌≤◌, List, [], ◌∷◌, ◌++◌, refl, sym, ap, subst, ◌∙◌, true, false, T, arith, append_assoc, append-nil, inl, inr}
use Rattle.std.specs.Prelude.{Some, None, if◌then◌else◌, not, ◌&&◌}
use Rattle.std.specs.Option.{option_map}
use Rattle.lobby_model.specs.declared.event.Event.{Event}
use Rattle.account_book.specs.Account.{Account}
use Rattle.line_words.specs.Table.{at_number}
use Rattle.lobby_model.specs.Configuration.{Configuration}
use Rattle.lobby_model.specs.State.{State, Client, is_live, is_ended, empty_lobby}
use Rattle.lobby_model.specs.Events.{effect}
use Rattle.lobby_model.specs.Next.{next, batch, with_batch, has_room_for, put_to, put_by, taken_by}
use Rattle.lobby_model.specs.History.{after, put_in, taken_in}
use Rattle.lobby_model.proofs.Delivered.{delivered_at}
use Rattle.lobby_model.proofs.Origins.{LetIn, Stayed, given_is, last_given, nothing_taken, origin, rises, undelivered}

-- so many bytes were taken and put for client c up to the state s
pub record Balanced (s : State) (c : ℕ) (taken put : List ℕ) : Type 0 where
  pub known : (x : Client) → at_number s.clients c ≡ Some x → (0 < c) × (c ≤ s.last_client)
  pub there : (x : Client) → at_number s.clients c ≡ Some x → x.cut ≡ false → taken ++ x.unread ≡ put
  pub gone : (x : Client) → at_number s.clients c ≡ Some x → x.cut ≡ true → x.unread ≡ []
  pub fresh : s.last_client < c → (taken ≡ []) × (put ≡ [])

-- the same of the client y between an event's effect and its delivery
record Halfway (s : State) (e : Event) (c : ℕ) (taken put : List ℕ) (y : Client) : Type 0 where
  pub known : (0 < c) × (c ≤ (next s e).last_client)
  pub there : y.cut ≡ false → (taken ++ taken_by s e c) ++ y.unread ≡ put
  pub gone : y.cut ≡ true → y.unread ≡ []

second_nil : (xs ys : List ℕ) → xs ++ ys ≡ [] → ys ≡ []
second_nil [] ys e = e
second_nil (x ∷ xs) ys e = absurd (cc)

module _ (s : State) (e : Event) (c : ℕ) (taken put : List ℕ) (b : Balanced s c taken put) where
  comes_in : (y : Client) → LetIn s e c y → Halfway s e c taken put y
  comes_in y l =
      let number : c ≡ s.last_client + 1 = given_is s e c l.given in
      let none = b.fresh (omega (arith, number)) in
      record {
        known = (omega (arith, number), omega (arith, last_given s e c l.given));
        there = λ k. (λ i. (none.0 i ++ l.none_taken i) ++ l.unread i) ∙ sym none.1;
        gone = λ k. l.unread;
      }

  stays : (y : Client) → Stayed (at_number s.clients c) (taken_by s e c) y → Halfway s e c taken put y
  stays y l = record {
    known = ((b.known l.was l.found).0, omega (arith, (b.known l.was l.found).1, rises s e));
    there = λ k. append_assoc taken (taken_by s e c) y.unread ∙ ap (λ u. taken ++ u) l.same_unread ∙ b.there l.was l.found (sym l.same_cut ∙ k);
    gone = λ k. second_nil (taken_by s e c) y.unread (l.same_unread ∙ b.gone l.was l.found (sym l.same_cut ∙ k));
  }

  halfway : (y : Client) → at_number (effect s e).clients c ≡ Some y → Halfway s e c taken put y
  halfway y f = elim (origin s c y e f) [ inl new ↦ comes_in y new | inr old ↦ stays y old ]

  not_there : s.last_client < c → at_number s.clients c ≡ None
  not_there new =
      elim (at_number s.clients c) as (λ o. at_number s.clients c ≡ o → o ≡ None) [ None ↦ λ f. refl | Some x ↦ λ f. absurd (omega (arith, (b.known x f).1, new)) ] refl

  not_let_in : (next s e).last_client < c → at_number (effect s e).clients c ≡ None
  not_let_in new =
      elim (at_number (effect s e).clients c) as (λ o. at_number (effect s e).clients c ≡ o → o ≡ None) [ None ↦ λ f. refl | Some y ↦ λ f. absurd (omega (arith, (halfway y f).known.1, new)) ] refl

-- what a batch makes of a client that it does not cut
kept : (limit : ℕ) (bytes : List ℕ) (x : Client) → (with_batch limit bytes x).cut ≡ false → (x.cut ≡ false) × ((with_batch limit bytes x).unread ≡ x.unread ++ put_to limit bytes (Some x))
kept limit bytes x =
    elim (is_live x) as (λ l. is_live x ≡ l → (if l then (if has_room_for limit x bytes then record x { unread = x.unread ++ bytes } else record x { cut = true; unread = [] }) else x).cut ≡ false
    → (x.cut ≡ false) × ((if l then (if has_room_for limit x bytes then record x { unread = x.unread ++ bytes } else record x { cut = true; unread = [] }) else x).unread ≡ x.unread ++ (if l && has_room_for limit x bytes then bytes else []))) [
      | true ↦ λ e. elim (has_room_for limit x bytes) as (λ r. (if r then record x { unread = x.unread ++ bytes } else record x { cut = true; unread = [] }).cut ≡ false
          → (x.cut ≡ false) × ((if r then record x { unread = x.unread ++ bytes } else record x { cut = true; unread = [] }).unread ≡ x.unread ++ (if r then bytes else []))) [
            | true ↦ λ k. (k, refl)
            | false ↦ λ k. absurd (subst T k tt)
          ]
      | false ↦ λ e k. (k, sym (append-nil x.unread))
    ] refl

-- a client that is cut has nothing to read, and gets nothing
cut_gets : (limit : ℕ) (bytes : List ℕ) (x : Client) → (x.cut ≡ true → x.unread ≡ []) → (with_batch limit bytes x).cut ≡ true → ((with_batch limit bytes x).unread ≡ []) × (put_to limit bytes (Some x) ≡ [])
cut_gets limit bytes x gone =
    elim (is_live x) as (λ l. is_live x ≡ l → (if l then (if has_room_for limit x bytes then record x { unread = x.unread ++ bytes } else record x { cut = true; unread = [] }) else x).cut ≡ true
    → ((if l then (if has_room_for limit x bytes then record x { unread = x.unread ++ bytes } else record x { cut = true; unread = [] }) else x).unread ≡ []) × ((if l && has_room_for limit x bytes then bytes else []) ≡ [])) [
      | true ↦ λ e. elim (has_room_for limit x bytes) as (λ r. (if r then record x { unread = x.unread ++ bytes } else record x { cut = true; unread = [] }).cut ≡ true
          → ((if r then record x { unread = x.unread ++ bytes } else record x { cut = true; unread = [] }).unread ≡ []) × ((if r then bytes else []) ≡ [])) [
            | true ↦ λ k. absurd (both_ways x.cut k e)
            | false ↦ λ k. (refl, refl)
          ]
      | false ↦ λ e k. (gone k, refl)
    ] refl
  where
    both_ways : (cut : Bool) → cut ≡ true → (not cut && not (is_ended x.phase)) ≡ true → ⊥
    both_ways true k e = subst T (sym e) tt
    both_ways false k e = subst T (sym k) tt

pub balanced_next : (s : State) (e : Event) (c : ℕ) (taken put : List ℕ) → Balanced s c taken put → Balanced (next s e) c (taken ++ taken_by s e c) (put ++ put_by s e c)
balanced_next s e c taken put b = record {
  known = λ x f. let from = undelivered s e c x f in (halfway s e c taken put b from.0 from.1).known;
  there = λ x f k.
      let from = undelivered s e c x f in
      let one = kept s.settings.outbox_limit (batch s e c) from.0 (subst (λ (y : Client). y.cut ≡ false) (sym from.2) k) in
      ap (λ (y : Client). (taken ++ taken_by s e c) ++ y.unread) (sym from.2)
      ∙ ap (λ u. (taken ++ taken_by s e c) ++ u) one.1
      ∙ sym (append_assoc (taken ++ taken_by s e c) from.0.unread _)
      ∙ ap (λ t. t ++ put_to s.settings.outbox_limit (batch s e c) (Some from.0)) ((halfway s e c taken put b from.0 from.1).there one.0)
      ∙ ap (λ o. put ++ put_to s.settings.outbox_limit (batch s e c) o) (sym from.1);
  gone = λ x f k.
      let from = undelivered s e c x f in
      ap (λ (y : Client). y.unread) (sym from.2) ∙ (cut_gets s.settings.outbox_limit (batch s e c) from.0 (halfway s e c taken put b from.0 from.1).gone (subst (λ (y : Client). y.cut ≡ true) (sym from.2) k)).0;
  fresh = λ new.
      let before : s.last_client < c = omega (arith, rises s e, new) in
      let was = b.fresh before in (
        (λ i. was.0 i ++ nothing_taken s e c (not_there s e c taken put b before) i),
        ap (λ o. put ++ put_to s.settings.outbox_limit (batch s e c) o) (not_let_in s e c taken put b new) ∙ append-nil put ∙ was.1,
      );
}

pub balanced_after : (s : State) (history : List Event) (c : ℕ) (taken put : List ℕ) → Balanced s c taken put → Balanced (after s history) c (taken ++ taken_in s history c) (put ++ put_in s history c)
balanced_after s [] c taken put b = subst (λ t. Balanced s c t (put ++ [])) (sym (append-nil taken)) (subst (λ p. Balanced s c taken p) (sym (append-nil put)) b)
balanced_after s (e ∷ history) c taken put b =
    subst (λ t. Balanced (after (next s e) history) c t (put ++ (put_by s e c ++ put_in (next s e) history c))) (append_assoc taken _ _)
    (subst (λ p. Balanced (after (next s e) history) c ((taken ++ taken_by s e c) ++ taken_in (next s e) history c) p) (append_assoc put _ _)
    (balanced_after (next s e) history c (taken ++ taken_by s e c) (put ++ put_by s e c) (balanced_next s e c taken put b)))

pub at_start : (settings : Configuration) (accounts : List Account) (c : ℕ) → Balanced (empty_lobby settings accounts) c [] []
at_start settings accounts c = record { known = λ x f. absurd (cc); there = λ x f. absurd (cc); gone = λ x f. absurd (cc); fresh = λ _. (refl, refl) }

-- from the empty lobby on
pub taken_then_unread : (settings : Configuration) (accounts : List Account) (history : List Event) (c : ℕ) (x : Client) → at_number (after (empty_lobby settings accounts) history).clients c ≡ Some x → x.cut ≡ false
    → taken_in (empty_lobby settings accounts) history c ++ x.unread ≡ put_in (empty_lobby settings accounts) history c
taken_then_unread settings accounts history c = (balanced_after (empty_lobby settings accounts) history c [] [] (at_start settings accounts c)).there

-- each client bears a number that was given
pub is_numbered : (settings : Configuration) (accounts : List Account) (history : List Event) (c : ℕ) (x : Client) → at_number (after (empty_lobby settings accounts) history).clients c ≡ Some x → (0 < c) × (c ≤ (after (empty_lobby settings accounts) history).last_client)
is_numbered settings accounts history c = (balanced_after (empty_lobby settings accounts) history c [] [] (at_start settings accounts c)).known

-- one that is cut has nothing to read
pub nothing_unread : (settings : Configuration) (accounts : List Account) (history : List Event) (c : ℕ) (x : Client) → at_number (after (empty_lobby settings accounts) history).clients c ≡ Some x → x.cut ≡ true → x.unread ≡ []
nothing_unread settings accounts history c = (balanced_after (empty_lobby settings accounts) history c [] [] (at_start settings accounts c)).gone

-- what was taken and put for a client, whatever the history
pub balanced : (settings : Configuration) (accounts : List Account) (history : List Event) (c : ℕ) → Balanced (after (empty_lobby settings accounts) history) c (taken_in (empty_lobby settings accounts) history c) (put_in (empty_lobby settings accounts) history c)
balanced settings accounts history c = balanced_after (empty_lobby settings accounts) history c [] [] (at_start settings accounts c)

-- an event puts nothing to a client that is not there after it, or that is cut then
pub put_by_none : (s : State) (e : Event) (c : ℕ) → at_number (next s e).clients c ≡ None → put_by s e c ≡ []
put_by_none s e c gone =
    elim (at_number (effect s e).clients c) as (λ o. option_map (with_batch s.settings.outbox_limit (batch s e c)) o ≡ None → put_to s.settings.outbox_limit (batch s e c) o ≡ []) [
      | None ↦ λ f. refl
      | Some x ↦ λ f. absurd (cc)
    ] (sym (delivered_at s e c) ∙ gone)

pub put_by_cut : (s : State) (e : Event) (c : ℕ) (taken put : List ℕ) (y : Client) → Balanced s c taken put → at_number (next s e).clients c ≡ Some y → y.cut ≡ true → put_by s e c ≡ []
put_by_cut s e c taken put y b f k =
    let from = undelivered s e c y f in
    ap (put_to s.settings.outbox_limit (batch s e c)) from.1
    ∙ (cut_gets s.settings.outbox_limit (batch s e c) from.0 (halfway s e c taken put b from.0 from.1).gone (subst (λ (y : Client). y.cut ≡ true) (sym from.2) k)).1
