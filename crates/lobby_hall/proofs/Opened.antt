-- What an open adds to the record: the log of the next client.
use Rattle.std.proofs.Common.{◌≡◌, ◌≢◌, ℕ, zero, suc, ◌+◌, ◌≤◌, List, [], ◌∷◌, ◌++◌, length, refl, sym, ap, ◌∙◌, true, false, arith, append-nil, cond, T}
use Rattle.std.specs.Prelude.{Some, None, slice_get}
use Rattle.std.specs.Option.{option_map}
use Rattle.std.specs.Ordering.{nat_cmp}
use Rattle.std.specs.Cmp.{nat_cmp_total}
use Rattle.std.specs.FinMap.Entries.{is_sorted}
use Rattle.std.proofs.lemmas.Option.{slice_get_within}
use Rattle.account_book.specs.Account.{Account}
use Rattle.lobby_model.specs.declared.event.Event.{Event}
use Rattle.lobby_model.specs.declared.event.Event.TheVariants as event
use Rattle.line_words.specs.Table.{at_number, put_number}
use Rattle.lobby_model.specs.Configuration.{Configuration}
use Rattle.lobby_model.specs.State.{State, Client, empty_lobby}
use Rattle.lobby_model.specs.Sessions.{has_place}
use Rattle.lobby_model.specs.Events.{effect}
use Rattle.lobby_model.specs.Next.{next, put_by, put_to}
use Rattle.lobby_model.specs.History.{after, put_in, taken_in}
use Rattle.line_words.proofs.Tables.{at-put}
use Rattle.lobby_model.proofs.Delivered.{put_nothing}
use Rattle.lobby_model.proofs.Quiet.{greeted_at, next_open}
use Rattle.lobby_model.proofs.EventsKept.{always_sound}
use Rattle.lobby_model.proofs.Balance.{balanced, put_by_none, put_by_cut}
use Rattle.lobby_machine.specs.Shown.{unread_of}
use Rattle.lobby_hall.specs.ByClient.{of_client}
use Rattle.lobby_hall.specs.Record.{Log, log_of, log_at, IsRecord}
use Rattle.lobby_hall.specs.Copied.{completed_log, completed, no_log}
use Rattle.lobby_hall.proofs.Each.{at_each, not_same}
use Rattle.lobby_hall.proofs.Unread.{unread_nobody, unread_there, unread_same}
use Rattle.lobby_hall.proofs.Recorded.{of-completed, put_in-snoc, taken_in-snoc, balanced_later}
use Rattle.line_words.proofs.Options.{get-append_some}

-- a list with one more value

pub of-append_some : {X : Type 0} (xs ys : List X) (q : ℕ) (x : X) → of_client xs q ≡ Some x → of_client (xs ++ ys) q ≡ Some x
of-append_some xs ys zero x e = absurd (cc)
of-append_some xs ys (suc k) x e = get-append_some xs ys k x e

pub of-append_new : {X : Type 0} (xs : List X) (n : X) → of_client (xs ++ n ∷ []) (suc (length xs)) ≡ Some n
of-append_new [] n = refl
of-append_new (x ∷ xs) n = of-append_new xs n

get-append_past : {X : Type 0} (xs : List X) (n : X) (k : ℕ) → slice_get xs k ≡ None → k ≢ length xs → slice_get (xs ++ n ∷ []) k ≡ None
get-append_past [] n zero e ne = absurd (ne refl)
get-append_past [] n (suc k) e ne = refl
get-append_past (x ∷ xs) n zero e ne = absurd (cc)
get-append_past (x ∷ xs) n (suc k) e ne = get-append_past xs n k e (λ h. ne (ap suc h))

pub of-append_past : {X : Type 0} (xs : List X) (n : X) (q : ℕ) → of_client xs q ≡ None → q ≢ suc (length xs) → of_client (xs ++ n ∷ []) q ≡ None
of-append_past xs n zero e ne = refl
of-append_past xs n (suc k) e ne = get-append_past xs n k e (λ h. ne (ap suc h))

pub of-bounded : {X : Type 0} (xs : List X) (q : ℕ) (x : X) → of_client xs q ≡ Some x → q ≤ length xs
of-bounded xs zero x e = absurd (cc)
of-bounded xs (suc k) x e = omega (arith, slice_get_within xs k x e)

-- the others get nothing, and have what they had
module _ (s : State) (ip : List ℕ) (home : ℕ) (place : has_place s ≡ true) (q : ℕ) (ne : q ≢ s.last_client + 1) where
  elsewhere : (x : Client) → at_number (put_number s.clients (s.last_client + 1) x) q ≡ at_number s.clients q
  elsewhere x =
      at-put nat_cmp nat_cmp_total s.clients (s.last_client + 1) x q
      ∙ ap (λ b. cond b (Some x) (at_number s.clients q)) (not_same q (s.last_client + 1) ne)

  pub other_client : T (is_sorted nat_cmp s.clients) → at_number (next s (event.Open ip home)).clients q ≡ at_number s.clients q
  other_client in_order = ap (λ (t : State). at_number t.clients q) (next_open s ip home place in_order) ∙ elsewhere _

  other_put : put_by s (event.Open ip home) q ≡ []
  other_put =
      ap (λ b. put_to s.settings.outbox_limit b (at_number (effect s (event.Open ip home)).clients q))
      (greeted_at s ip home place q false (not_same q (s.last_client + 1) ne))
      ∙ put_nothing s.settings.outbox_limit (at_number (effect s (event.Open ip home)).clients q)

module _ (settings : Configuration) (accounts : List Account) (events : List Event) (logs : List Log) (ip : List ℕ) (home : ℕ) where
  abbrev start : State
  start = empty_lobby settings accounts

  abbrev here : State
  here = after start events

  abbrev opening : Event
  opening = event.Open ip home

  abbrev later : State
  later = next here (event.Open ip home)

  module _ (place : has_place here ≡ true) (each : length logs ≡ here.last_client) (r : IsRecord (completed logs here) start events) where
    in_order : T (is_sorted nat_cmp here.clients)
    in_order = (always_sound settings accounts events).clients.in_order

    untaken : (q : ℕ) → taken_in start (events ++ opening ∷ []) q ≡ taken_in start events q
    untaken q = taken_in-snoc start events opening q ∙ append-nil (taken_in start events q)

    -- the next client, which has all that was put to it
    first_put : unread_of later (suc (length logs)) ≡ put_in start (events ++ opening ∷ []) (suc (length logs))
    first_put =
        let c : ℕ = suc (length logs) in
        let new = (balanced settings accounts events (suc (length logs))).fresh (omega (arith, each)) in
        elim (at_number later.clients c) as (λ o. at_number later.clients c ≡ o → unread_of later c ≡ put_in start (events ++ opening ∷ []) c) [
          | None ↦ λ f. unread_nobody later c f ∙ sym (put_in-snoc start events opening c ∙ (λ i. new.1 i ++ put_by_none here opening c f i))
          | Some y ↦ λ f. unread_there later c y f ∙ elim y.cut as (λ b. y.cut ≡ b → y.unread ≡ put_in start (events ++ opening ∷ []) c) [
            | true ↦ λ k. (balanced_later settings accounts events opening c).gone y f k ∙ sym (put_in-snoc start events opening c ∙ (λ i. new.1 i ++ put_by_cut here opening c _ _ y (balanced settings accounts events c) f k i))
            | false ↦ λ k. ap (λ t. t ++ y.unread) (sym (append-nil (taken_in start events c) ∙ new.0)) ∙ (balanced_later settings accounts events opening c).there y f k ∙ sym (put_in-snoc start events opening c)
          ] refl
        ] refl

    first_read : taken_in start (events ++ opening ∷ []) (suc (length logs)) ≡ []
    first_read = untaken (suc (length logs)) ∙ ((balanced settings accounts events (suc (length logs))).fresh (omega (arith, each))).0

    -- a number that nobody bears
    none_put : (q : ℕ) → of_client logs q ≡ None → q ≢ suc (length logs) → put_in start (events ++ opening ∷ []) q ≡ put_in start events q
    none_put q none ne =
        put_in-snoc start events opening q ∙ ap (λ p. put_in start events q ++ p) (other_put here ip home place q (λ e. ne (omega (arith, e, each)))) ∙ append-nil (put_in start events q)

    both : (q : ℕ) → ((log_at (completed (logs ++ no_log ∷ []) later) q).put ≡ put_in start (events ++ opening ∷ []) q) × ((log_at (completed (logs ++ no_log ∷ []) later) q).read ≡ taken_in start (events ++ opening ∷ []) q)
    both q =
        elim (of_client logs q) as (λ o. of_client logs q ≡ o → ((log_at (completed (logs ++ no_log ∷ []) later) q).put ≡ put_in start (events ++ opening ∷ []) q) × ((log_at (completed (logs ++ no_log ∷ []) later) q).read ≡ taken_in start (events ++ opening ∷ []) q)) [
          | Some log ↦ λ f.
              let old : q ≢ here.last_client + 1 = λ e. omega (arith, e, each, of-bounded logs q log f) in
              let is : log_at (completed (logs ++ no_log ∷ []) later) q ≡ log_at (completed logs here) q =
              ap log_of (of-completed (logs ++ no_log ∷ []) later q
              ∙ (λ i. option_map (λ l. completed_log l (unread_same here later q (other_client here ip home place q old in_order) i))
              (of-append_some logs (no_log ∷ []) q log f i))
              ∙ ap (option_map (λ l. completed_log l (unread_of here q))) (sym f)
              ∙ sym (of-completed logs here q)) in (
                ap (λ (l : Log). l.put) is ∙ r.put q ∙ sym (put_in-snoc start events opening q ∙ ap (λ p. put_in start events q ++ p) (other_put here ip home place q old) ∙ append-nil (put_in start events q)),
                ap (λ (l : Log). l.read) is ∙ r.read q ∙ sym (untaken q),
              )
          | None ↦ λ f. at_each (λ n. of_client logs n ≡ None → ((log_at (completed (logs ++ no_log ∷ []) later) n).put ≡ put_in start (events ++ opening ∷ []) n) × ((log_at (completed (logs ++ no_log ∷ []) later) n).read ≡ taken_in start (events ++ opening ∷ []) n)) (suc (length logs))
              (λ g.
              let is : log_at (completed (logs ++ no_log ∷ []) later) (suc (length logs)) ≡ completed_log no_log (unread_of later (suc (length logs))) =
              ap log_of (of-completed (logs ++ no_log ∷ []) later (suc (length logs)) ∙ ap (option_map (λ l. completed_log l (unread_of later (suc (length logs))))) (of-append_new logs no_log)) in
              (ap (λ (l : Log). l.put) is ∙ first_put, ap (λ (l : Log). l.read) is ∙ sym first_read))
              (λ n ne g.
              let was : log_at (completed logs here) n ≡ no_log = ap log_of (of-completed logs here n ∙ ap (option_map (λ l. completed_log l (unread_of here n))) g) in
              let is : log_at (completed (logs ++ no_log ∷ []) later) n ≡ no_log = ap log_of (of-completed (logs ++ no_log ∷ []) later n ∙ ap (option_map (λ l. completed_log l (unread_of later n))) (of-append_past logs no_log n g ne)) in (
                ap (λ (l : Log). l.put) (is ∙ sym was) ∙ r.put n ∙ sym (none_put n g ne),
                ap (λ (l : Log). l.read) (is ∙ sym was) ∙ r.read n ∙ sym (untaken n),
              ))
              q f
        ] refl

    pub opened_record : IsRecord (completed (logs ++ no_log ∷ []) later) start (events ++ opening ∷ [])
    opened_record = record { put = λ q. (both q).0; read = λ q. (both q).1 }
