-- No client number is given twice.
use Rattle.std.proofs.Common.{◌≡◌, ◌≤◌, ◌<◌, ℕ, ◌+◌, List, [], ◌∷◌, refl, sym, ap, ◌∙◌, true, false, cond, inl, inr, arith}
use Rattle.std.specs.Prelude.{Option, Some, None, ◌⊎◌, IsSome, is_some, if◌then◌else◌}
use Rattle.std.specs.Option.{option_map}
use Rattle.std.specs.Ordering.{nat_cmp}
use Rattle.std.specs.Cmp.{nat_cmp_total}
use Rattle.std.proofs.lemmas.Option.{same_Some}
use Rattle.lobby_model.specs.declared.event.Event.{Event}
use Rattle.lobby_model.specs.declared.event.Event.TheVariants as event
use Rattle.line_words.specs.Table.{at_number}
use Rattle.lobby_model.specs.State.{State}
use Rattle.lobby_model.specs.Outcome.{state_after}
use Rattle.lobby_model.specs.Sessions.{has_place, greeted, connects}
use Rattle.lobby_model.specs.Events.{effect}
use Rattle.lobby_model.specs.Next.{next, batch, with_batch}
use Rattle.lobby_model.specs.History.{after}
use Rattle.lobby_model.specs.Laws.{number_given}
use Rattle.line_words.proofs.Tables.{at-put}
use Rattle.lobby_model.proofs.Decided.{opening}
use Rattle.lobby_model.proofs.Delivered.{delivered_at, same_itself}
use Rattle.lobby_model.proofs.Origins.{given_is, last_given, origin, rises, undelivered}

rises_after : (s : State) (history : List Event) → s.last_client ≤ (after s history).last_client
rises_after s [] = omega arith
rises_after s (e ∷ history) = omega (arith, rises s e, rises_after (next s e) history)

pub later_is_greater : (s : State) (first : Event) (between : List Event) (second : Event) (n m : ℕ)
    → number_given s first ≡ Some n → number_given (after s (first ∷ between)) second ≡ Some m → n < m
later_is_greater s first between second n m f g =
    omega (arith, last_given s first n f, rises_after (next s first) between, given_is (after (next s first) between) second m g)

-- an event that gives a number lets a client in under it
enters : (s : State) (e : Event) (n : ℕ) → number_given s e ≡ Some n → IsSome (at_number (effect s e).clients n)
enters s (event.Open ip home) n g =
    elim (has_place s) as (λ p. (if p then Some (s.last_client + 1) else None) ≡ Some n → is_some (at_number (state_after s (opening s ip home p)).clients n) ≡ true) [
      | true ↦ λ f.
          ap (λ k. is_some (at_number ((connects (s.last_client + 1) ip home s).after s).clients k)) (sym (same_Some (s.last_client + 1) n f))
          ∙ ap is_some (at-put nat_cmp nat_cmp_total s.clients (s.last_client + 1) (greeted ip home) (s.last_client + 1))
          ∙ ap (λ b. is_some (cond b (Some (greeted ip home)) (at_number s.clients (s.last_client + 1)))) (same_itself (s.last_client + 1))
      | false ↦ λ f. absurd (cc)
    ] g
enters s (event.Say c request) n g = absurd (cc)
enters s (event.Shut c) n g = absurd (cc)
enters s (event.Drain c k) n g = absurd (cc)

pub mapped_is_some : {A B : Type 0} (f : A → B) (o : Option A) → is_some (option_map f o) ≡ is_some o
mapped_is_some f None = refl
mapped_is_some f (Some x) = refl

pub given_has_client : (s : State) (e : Event) (n : ℕ) → number_given s e ≡ Some n → IsSome (at_number (next s e).clients n)
given_has_client s e n g =
    ap is_some (delivered_at s e n) ∙ mapped_is_some (with_batch s.settings.outbox_limit (batch s e n)) (at_number (effect s e).clients n) ∙ enters s e n g

-- a client that is there was there before, or was given its number
pub was_given : (s : State) (e : Event) (c : ℕ) → IsSome (at_number (next s e).clients c) → IsSome (at_number s.clients c) ⊎ (number_given s e ≡ Some c)
was_given s e c there =
    elim (at_number (next s e).clients c) as (λ o. at_number (next s e).clients c ≡ o → is_some o ≡ true → IsSome (at_number s.clients c) ⊎ (number_given s e ≡ Some c)) [
      | None ↦ λ f h. absurd (cc)
      | Some z ↦ λ f h. let from = undelivered s e c z f in elim (origin s c from.0 e from.1) [ inl new ↦ inr new.given | inr old ↦ inl (ap is_some old.found) ]
    ] refl there
