-- What an event adds to the record.
use Rattle.std.proofs.Common.{◌≡◌, ◌≢◌, ℕ, zero, suc, ◌+◌, ◌-◌, ◌<◌, ◌≤◌, List, [], ◌∷◌, ◌++◌, length, drop, refl, sym, ap, subst, ◌∙◌, true, false, arith, append-nil, append_assoc}
use Rattle.std.specs.Prelude.{Some, None, slice_get, IfSome}
use Rattle.std.specs.List.{AllByRecursion}
use Rattle.std.specs.Option.{option_map}
use Rattle.std.proofs.lemmas.List.{drop_all, drop_at, drop-drop}
use Rattle.account_book.specs.Account.{Account}
use Rattle.lobby_model.specs.declared.event.Event.{Event}
use Rattle.line_words.specs.Table.{at_number}
use Rattle.lobby_model.specs.Configuration.{Configuration}
use Rattle.lobby_model.specs.State.{State, empty_lobby}
use Rattle.lobby_model.specs.Next.{next, put_by, taken_by}
use Rattle.lobby_model.specs.History.{after, put_in, taken_in}
use Rattle.lobby_model.proofs.Balance.{Balanced, balanced, balanced_next, put_by_none, put_by_cut}
use Rattle.lobby_machine.specs.Shown.{unread_of}
use Rattle.lobby_hall.proofs.Unread.{unread_nobody, unread_there}
use Rattle.lobby_hall.specs.ByClient.{of_client}
use Rattle.lobby_hall.specs.Record.{Log, log_of, log_at, IsRecord}
use Rattle.lobby_hall.specs.Copied.{lacking, completed_log, completed_from, completed, IsWithin}

-- histories with one more event

pub after-snoc : (s : State) (events : List Event) (e : Event) → after s (events ++ e ∷ []) ≡ next (after s events) e
after-snoc s [] e = refl
after-snoc s (x ∷ events) e = after-snoc (next s x) events e

pub put_in-snoc : (s : State) (events : List Event) (e : Event) (c : ℕ) → put_in s (events ++ e ∷ []) c ≡ put_in s events c ++ put_by (after s events) e c
put_in-snoc s [] e c = append-nil (put_by s e c)
put_in-snoc s (x ∷ events) e c = ap (λ b. put_by s x c ++ b) (put_in-snoc (next s x) events e c) ∙ sym (append_assoc (put_by s x c) (put_in (next s x) events c) _)

pub taken_in-snoc : (s : State) (events : List Event) (e : Event) (c : ℕ) → taken_in s (events ++ e ∷ []) c ≡ taken_in s events c ++ taken_by (after s events) e c
taken_in-snoc s [] e c = append-nil (taken_by s e c)
taken_in-snoc s (x ∷ events) e c = ap (λ b. taken_by s x c ++ b) (taken_in-snoc (next s x) events e c) ∙ sym (append_assoc (taken_by s x c) (taken_in (next s x) events c) _)

-- logs by the numbers of clients

get-completed : (c k : ℕ) (logs : List Log) (s : State) → slice_get (completed_from c logs s) k ≡ option_map (λ log. completed_log log (unread_of s (k + c))) (slice_get logs k)
get-completed c k [] s = refl
get-completed c zero (log ∷ logs) s = ap (λ q. Some (completed_log log (unread_of s q))) (let e : c ≡ 0 + c = omega arith in e)
get-completed c (suc k) (log ∷ logs) s = get-completed (suc c) k logs s ∙ ap (λ q. option_map (λ log. completed_log log (unread_of s q)) (slice_get logs k)) (let e : k + suc c ≡ suc k + c = omega arith in e)

pub of-completed : (logs : List Log) (s : State) (q : ℕ) → of_client (completed logs s) q ≡ option_map (λ log. completed_log log (unread_of s q)) (of_client logs q)
of-completed logs s zero = refl
of-completed logs s (suc k) = get-completed 1 k logs s ∙ ap (λ q. option_map (λ log. completed_log log (unread_of s q)) (slice_get logs k)) (let e : k + 1 ≡ suc k = omega arith in e)

pub get-within : {X : Type 0} (P : X → Type 0) (xs : List X) (k : ℕ) → AllByRecursion P xs → IfSome (slice_get xs k) P
get-within P [] k h = tt
get-within P (x ∷ xs) zero h = h.0
get-within P (x ∷ xs) (suc k) h = get-within P xs k h.1

pub of-within : {X : Type 0} (P : X → Type 0) (xs : List X) (q : ℕ) → AllByRecursion P xs → IfSome (of_client xs q) P
of-within P xs zero h = tt
of-within P xs (suc k) h = get-within P xs k h

get-some : {X : Type 0} (xs : List X) (k : ℕ) → k < length xs → slice_get xs k ≢ None
get-some [] k h = λ e. omega (arith, h)
get-some (x ∷ xs) zero h = λ e. absurd (cc)
get-some (x ∷ xs) (suc k) h = get-some xs k (omega arith)

-- each client up to the length has a value
pub of-some : {X : Type 0} (xs : List X) (q : ℕ) → 0 < q → q ≤ length xs → of_client xs q ≢ None
of-some xs zero p h = λ e. omega (arith, p)
of-some xs (suc k) p h = get-some xs k (omega arith)

-- what is unread behind the part that a log has
pub filled : (put read unread taken more : List ℕ) → read ≡ taken → length read ≤ length put → taken ++ unread ≡ put ++ more → drop (length put - length read) unread ≡ more
filled put read unread taken more same within is =
    ap (drop (length put - length read)) (sym (drop_at taken unread (length read) (ap length (sym same))) ∙ ap (drop (length read)) is)
    ∙ drop-drop (length put - length read) (length read) (put ++ more)
    ∙ drop_at put more (length read + (length put - length read)) (omega (arith, within))

module _ (settings : Configuration) (accounts : List Account) (events : List Event) where
  abbrev start : State
  start = empty_lobby settings accounts

  abbrev here : State
  here = after start events

  -- nobody bears a number that has no log
  pub nobody : (logs : List Log) → length logs ≡ here.last_client → (q : ℕ) → of_client logs q ≡ None → at_number here.clients q ≡ None
  nobody logs each q none =
      elim (at_number here.clients q) as (λ o. at_number here.clients q ≡ o → o ≡ None) [
        | None ↦ λ e. refl
        | Some x ↦ λ e.
            let known = (balanced settings accounts events q).known x e in
            absurd (of-some logs q known.0 (omega (arith, known.1, each)) none)
      ] refl

  module _ (e : Event) where
    abbrev later : State
    later = next here e

    pub balanced_later : (q : ℕ) → Balanced later q (taken_in start events q ++ taken_by here e q) (put_in start events q ++ put_by here e q)
    balanced_later q = balanced_next here e q _ _ (balanced settings accounts events q)

    -- an event that takes nothing, where the logs were complete before it
    pub recorded : (logs : List Log) → IsRecord logs start events → AllByRecursion IsWithin logs → length logs ≡ later.last_client → ((q : ℕ) → taken_by here e q ≡ [])
        → IsRecord (completed logs later) start (events ++ e ∷ [])
    recorded logs r within each nothing = record { put = λ q. (both q).0; read = λ q. (both q).1 }
      where
        unborn : (q : ℕ) → of_client logs q ≡ None → at_number later.clients q ≡ None
        unborn q none =
            elim (at_number later.clients q) as (λ o. at_number later.clients q ≡ o → o ≡ None) [
              | None ↦ λ f. refl
              | Some x ↦ λ f.
                  let known = (balanced_later q).known x f in
                  absurd (of-some logs q known.0 (omega (arith, known.1, each)) none)
            ] refl

        lacked : (q : ℕ) (log : Log) → of_client logs q ≡ Some log → lacking log (unread_of later q) ≡ put_by here e q
        lacked q log found =
            elim (at_number later.clients q) as (λ o. at_number later.clients q ≡ o → lacking log (unread_of later q) ≡ put_by here e q) [
              | None ↦ λ f. ap (lacking log) (unread_nobody later q f) ∙ drop_all (length log.put - length log.read) [] (omega arith) ∙ sym (put_by_none here e q f)
              | Some y ↦ λ f. ap (lacking log) (unread_there later q y f) ∙ elim y.cut as (λ b. y.cut ≡ b → lacking log y.unread ≡ put_by here e q) [
                | true ↦ λ k. ap (lacking log) ((balanced_later q).gone y f k) ∙ drop_all (length log.put - length log.read) [] (omega arith)
                    ∙ sym (put_by_cut here e q _ _ y (balanced settings accounts events q) f k)
                | false ↦ λ k.
                    let put_is : put_in start events q ≡ log.put = sym (r.put q) ∙ ap (λ o. (log_of o).put) found in
                    let read_is : log.read ≡ taken_in start events q = sym (ap (λ o. (log_of o).read) found) ∙ r.read q in
                    filled log.put log.read y.unread (taken_in start events q) (put_by here e q) read_is (subst (λ o. IfSome o IsWithin) found (of-within IsWithin logs q within))
                    (ap (λ t. t ++ y.unread) (sym (append-nil (taken_in start events q)) ∙ ap (λ n. taken_in start events q ++ n) (sym (nothing q)))
                    ∙ (balanced_later q).there y f k ∙ ap (λ p. p ++ put_by here e q) put_is)
              ] refl
            ] refl

        both : (q : ℕ) → ((log_at (completed logs later) q).put ≡ put_in start (events ++ e ∷ []) q) × ((log_at (completed logs later) q).read ≡ taken_in start (events ++ e ∷ []) q)
        both q =
            elim (of_client logs q) as (λ o. of_client logs q ≡ o → ((log_at (completed logs later) q).put ≡ put_in start (events ++ e ∷ []) q) × ((log_at (completed logs later) q).read ≡ taken_in start (events ++ e ∷ []) q)) [
              | None ↦ λ f. (
                ap (λ o. (log_of o).put) (of-completed logs later q ∙ ap (option_map (λ log. completed_log log (unread_of later q))) f)
                    ∙ sym (put_in-snoc start events e q ∙ (λ i. (sym (r.put q) ∙ ap (λ o. (log_of o).put) f) i ++ put_by_none here e q (unborn q f) i)),
                ap (λ o. (log_of o).read) (of-completed logs later q ∙ ap (option_map (λ log. completed_log log (unread_of later q))) f)
                    ∙ sym (taken_in-snoc start events e q ∙ (λ i. (sym (r.read q) ∙ ap (λ o. (log_of o).read) f) i ++ nothing q i)),
              )
              | Some log ↦ λ f. (
                ap (λ o. (log_of o).put) (of-completed logs later q ∙ ap (option_map (λ log. completed_log log (unread_of later q))) f)
                    ∙ (λ i. (sym (ap (λ o. (log_of o).put) f) ∙ r.put q) i ++ lacked q log f i)
                    ∙ sym (put_in-snoc start events e q),
                ap (λ o. (log_of o).read) (of-completed logs later q ∙ ap (option_map (λ log. completed_log log (unread_of later q))) f)
                    ∙ sym (ap (λ o. (log_of o).read) f) ∙ r.read q ∙ sym (append-nil (taken_in start events q)) ∙ ap (λ n. taken_in start events q ++ n) (sym (nothing q))
                    ∙ sym (taken_in-snoc start events e q),
              )
            ] refl
