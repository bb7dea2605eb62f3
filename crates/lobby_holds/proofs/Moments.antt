-- Laws of moments.
use Rattle.std.proofs.Common.{◌≡◌, ℕ, true, false, cond, List, [], ◌∷◌, ◌++◌, refl, ap, eq-eqb}
use Rattle.std.specs.Prelude.{filter, ◌==◌, if◌then◌else◌}
use Rattle.lobby_model.specs.declared.event.Event.{Event}
use Rattle.lobby_model.specs.State.{State}
use Rattle.lobby_model.specs.Next.{next}
use Rattle.lobby_lock.specs.History.{Entry, events_of, after_history, made_by, under}
use Rattle.lobby_holds.specs.Moments.{moment, moments}

pub moments-append : (n : ℕ) (s : State) (xs ys : List Entry) → moments n s (xs ++ ys) ≡ moments n s xs ++ moments n (after_history s xs) ys
moments-append n s [] ys = refl
moments-append n s (x ∷ xs) ys =
    elim (x.0 == n) as (λ b. (if b then moment s x.1 ∷ moments n (next s x.1) (xs ++ ys) else moments n (next s x.1) (xs ++ ys))
    ≡ (if b then moment s x.1 ∷ moments n (next s x.1) xs else moments n (next s x.1) xs) ++ moments n (after_history (next s x.1) xs) ys) [
      | true ↦ ap (λ l. moment s x.1 ∷ l) (moments-append n (next s x.1) xs ys)
      | false ↦ moments-append n (next s x.1) xs ys
    ]

-- who made nothing has no moment
pub moments-none : (n : ℕ) (s : State) (xs : List Entry) → made_by n xs ≡ [] → moments n s xs ≡ []
moments-none n s [] e = refl
moments-none n s (x ∷ xs) e =
    elim (x.0 == n) as (λ b. events_of (cond b (x ∷ filter (λ y. y.0 == n) xs) (filter (λ y. y.0 == n) xs)) ≡ []
    → (if b then moment s x.1 ∷ moments n (next s x.1) xs else moments n (next s x.1) xs) ≡ []) [
      | true ↦ λ f. absurd (cc (f))
      | false ↦ λ f. moments-none n (next s x.1) xs f
    ] e

pub moments-own : (n : ℕ) (s : State) (e : Event) → moments n s (under n (e ∷ [])) ≡ moment s e ∷ []
moments-own n s e = ap (λ b. if b then moment s e ∷ [] else []) (eq-eqb n n refl)
