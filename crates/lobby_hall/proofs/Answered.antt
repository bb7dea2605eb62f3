-- What the calls of a hall answer, from what the calls inside them do.
use Rattle.std.proofs.Common.{◌≡◌, ◌≢◌, ℕ, List, [], ◌∷◌, ◌++◌, length, min, refl, sym, ap, subst, ◌∙◌, append-nil, append_assoc, true, arith}
use Rattle.std.specs.Prelude.{Option, Some, None, Result, Ok, Err, OnOk, is_some}
use Rattle.std.specs.List.{AllByRecursion}
use Rattle.command_grammar.specs.declared.command.Request.{Request}
use Rattle.account_book.specs.Account.{Account}
use Rattle.lobby_model.specs.declared.event.Event.TheVariants as event
use Rattle.lobby_model.specs.declared.schedule.Step.TheVariants as step
use Rattle.line_words.specs.Table.{at_number}
use Rattle.lobby_model.specs.State.{State}
use Rattle.lobby_model.specs.Next.{next}
use Rattle.client_session.specs.declared.session.Next.TheVariants.{Line, Spoilt}
use Rattle.lobby_hall.specs.Record.{Log}
use Rattle.client_session.specs.Serving.{Serving}
use Rattle.client_session.specs.OneSession.{Fed, Accepted, IsNextOf}
use Rattle.lobby_hall.specs.Standing.{Kept, session_at, TakesStep, StandsAfter}
use Rattle.lobby_model.specs.declared.event.Event.{Event}
use Rattle.lobby_model.specs.declared.schedule.Step.{Step}
use Rattle.lobby_model.specs.Configuration.{Configuration}
use Rattle.lobby_model.specs.Schedule.{World, StepGives, Gives, new_world}
use Rattle.lobby_hall.specs.Schedules.{StandsFor}
use Rattle.lobby_hall.specs.Copied.{completed, IsWithin, changed_at, caught_up, read_on}
use Rattle.lobby_machine.specs.Shown.{unread_of}
use Rattle.lobby_hall.proofs.Unread.{unread_there}
use Rattle.lobby_hall.proofs.Drained.{same_drain}
use Rattle.lobby_hall.proofs.Steps.{clients_in_order, arrived, shut_off, took_spoilt, took_line, was_read}

-- the new hall, field by field
removed_is : (s : State) (ss : List (Option Serving)) (rs : List Log) (new : Kept) (c : ℕ) → new.lobby ≡ next s (event.Shut c) → new.sessions ≡ changed_at (λ _. None) ss c → new.record_so_far ≡ completed rs new.lobby
    → record { lobby = next s (event.Shut c); sessions = changed_at (λ _. None) ss c; record_so_far = completed rs (next s (event.Shut c)) } ≡ new
removed_is s ss rs new c lobby sessions logs = λ i. record { lobby = sym lobby i; sessions = sym sessions i; record_so_far = sym (logs ∙ ap (completed rs) lobby) i }

module _ {E : Type 0} (s : State) (ss : List (Option Serving)) (rs : List Log) where
  pub fed_ok : (r : Result (Unit {0}) E) (c : ℕ) (piece : List ℕ) (new : List (Option Serving)) → OnOk r (Fed (session_at ss c) (session_at new c) piece)
      → ((q : ℕ) → q ≢ c → session_at new q ≡ session_at ss q) → length new ≡ length ss
      → OnOk r (TakesStep (record { lobby = s; sessions = ss; record_so_far = rs }) (record { lobby = s; sessions = new; record_so_far = rs }) (step.Arrive c piece))
  fed_ok (Ok x) c piece new fed others same = λ settings accounts events w st. arrived settings accounts events w s ss rs st c piece new fed others same
  fed_ok (Err e) c piece new fed others same = tt

  module _ (new : Kept) (c : ℕ) where
    pub shut_ok : (r : Result (Unit {0}) E) → is_some (at_number s.clients c) ≡ true
        → OnOk r (new.lobby ≡ next s (event.Shut c)) → OnOk r (new.sessions ≡ changed_at (λ _. None) ss c) → OnOk r (new.record_so_far ≡ completed rs new.lobby) → OnOk r (AllByRecursion IsWithin rs)
        → OnOk r (TakesStep (record { lobby = s; sessions = ss; record_so_far = rs }) new (step.Shut c))
    shut_ok (Ok x) there lobby sessions logs within = λ settings accounts events w st. subst (λ h. StandsAfter h settings accounts events w (step.Shut c)) (removed_is s ss rs new c lobby sessions logs) (shut_off settings accounts events w s ss rs st c within there)
    shut_ok (Err e) there lobby sessions logs within = tt

    pub spoilt_ok : (r : Result (Unit {0}) E) → IsNextOf (session_at ss c) Spoilt
        → OnOk r (new.lobby ≡ next s (event.Shut c)) → OnOk r (new.sessions ≡ changed_at (λ _. None) ss c) → OnOk r (new.record_so_far ≡ completed rs new.lobby) → OnOk r (AllByRecursion IsWithin rs)
        → OnOk r (TakesStep (record { lobby = s; sessions = ss; record_so_far = rs }) new (step.Take c))
    spoilt_ok (Ok x) told lobby sessions logs within = λ settings accounts events w st. subst (λ h. StandsAfter h settings accounts events w (step.Take c)) (removed_is s ss rs new c lobby sessions logs) (took_spoilt settings accounts events w s ss rs st c within told)
    spoilt_ok (Err e) told lobby sessions logs within = tt

    pub line_ok : (r : Result (Unit {0}) E) (request : Request) → IsNextOf (session_at ss c) (Line request)
        → OnOk r (new.lobby ≡ next s (event.Say c request)) → OnOk r (Accepted (session_at ss c) (session_at new.sessions c)) → ((q : ℕ) → q ≢ c → session_at new.sessions q ≡ session_at ss q) → length new.sessions ≡ length ss
        → OnOk r (new.record_so_far ≡ completed rs new.lobby) → OnOk r (AllByRecursion IsWithin rs)
        → OnOk r (TakesStep (record { lobby = s; sessions = ss; record_so_far = rs }) new (step.Take c))
    line_ok (Ok x) request told lobby accepted others same logs within = λ settings accounts events w st.
        subst (λ h. StandsAfter h settings accounts events w (step.Take c))
        (λ i. record { lobby = sym lobby i; sessions = new.sessions; record_so_far = sym (logs ∙ ap (completed rs) lobby) i })
        (took_line settings accounts events w s ss rs st c request new.sessions within told accepted others same)
    line_ok (Err e) request told lobby accepted others same logs within = tt

-- A read takes what there is, up to the count that it asked for.
pub read_ok : (s : State) (ss : List (Option Serving)) (ls : List Log) (c count room got : ℕ) (after : State) (caught new : List Log) → is_some (at_number s.clients c) ≡ true
    → room ≡ min count (length (unread_of s c)) → got ≡ min (length (unread_of s c)) room → after ≡ next s (event.Drain c room)
    → caught ≡ caught_up ls s c → new ≡ changed_at (read_on got) caught c → (got ≡ 0 → new ≡ caught)
    → TakesStep (record { lobby = s; sessions = ss; record_so_far = completed ls s }) (record { lobby = after; sessions = ss; record_so_far = completed new after }) (step.Read c count)
read_ok s ss ls c count room got after caught new there room_is got_is after_is caught_is new_is none =
    elim (at_number s.clients c) as (λ o. at_number s.clients c ≡ o → is_some o ≡ true
    → TakesStep (record { lobby = s; sessions = ss; record_so_far = completed ls s }) (record { lobby = after; sessions = ss; record_so_far = completed new after }) (step.Read c count)) [
      | None ↦ λ f e. absurd (cc)
      | Some x ↦ λ f e settings accounts events w st.
          let unread : length (unread_of s c) ≡ length x.unread = ap length (unread_there s c x f) in
          let got_all : got ≡ min count (length x.unread) = omega (arith, room_is, got_is, unread) in
          let in_order = clients_in_order settings accounts events w s ss (completed ls s) st in
          let next_is : next s (event.Drain c count) ≡ after = sym (same_drain s c count in_order) ∙ ap (λ n. next s (event.Drain c n)) (sym room_is) ∙ sym after_is in
          subst (λ t. StandsAfter (record { lobby = t; sessions = ss; record_so_far = completed new t }) settings accounts events w (step.Read c count)) next_is
          (was_read settings accounts events w s ss ls st c count x f new
          (new_is ∙ (λ i. changed_at (read_on (got_all i)) (caught_is i) c))
          (λ z. none (got_all ∙ z) ∙ caught_is))
    ] refl there

-- Over schedules.

gives-snoc : (w : World) (steps : List Step) (events : List Event) (mid : World) (one : Step) (here : List Event) (new : World) → Gives w steps events mid → StepGives mid one here new
    → Gives w (steps ++ one ∷ []) (events ++ here) new
gives-snoc w [] events mid one here new g h =
    (here, [], new, subst (λ v. StepGives v one here new) g.1 h, (refl, refl), ap (λ es. es ++ here) g.0 ∙ sym (append-nil here))
gives-snoc w (x ∷ steps) events mid one here new g h =
    (g.0, g.1 ++ here, g.2, g.3, gives-snoc g.2 steps g.1 mid one here new g.4 h, ap (λ es. es ++ here) g.5 ∙ append_assoc g.0 g.1 here)

pub scheduled : (old new : Kept) (one : Step) → TakesStep old new one → (settings : Configuration) (accounts : List Account) (steps : List Step) → StandsFor old settings accounts steps → StandsFor new settings accounts (steps ++ one ∷ [])
scheduled old new one takes settings accounts steps st =
    let after = takes settings accounts st.events st.world st.stands in
    record {
      events = st.events ++ after.0;
      world = after.1;
      gives = gives-snoc (new_world settings accounts) steps st.events st.world one after.0 after.1 st.gives after.2;
      stands = after.3;
    }
