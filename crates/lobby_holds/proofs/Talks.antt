-- Laws of what a worker does for one client.
use Rattle.std.proofs.Common.{◌≡◌, ℕ, zero, suc, ◌+◌, ◌≤◌, true, false, List, [], ◌∷◌, ◌++◌, length, refl, sym, ap, ◌∙◌, subst, arith, append_assoc, length-append}
use Rattle.std.proofs.Math.Bool.{or-false, or-true}
use Rattle.std.proofs.lemmas.List.Folds.{list_any-append}
use Rattle.std.specs.Prelude.{◌||◌, Result, Ok, Err, IfOk, OnErr}
use Rattle.lobby_model.specs.declared.event.Event.{Event}
use Rattle.lobby_model.specs.declared.event.Event.TheVariants as event
use Rattle.lobby_model.specs.State.{State}
use Rattle.lobby_model.specs.Touched.{touches}
use Rattle.lobby_model.proofs.Quiet.{quiet_touches}
use Rattle.lobby_holds.specs.Moments.{Moment, moment, asked, requests, questioned, questions, touched, tells_end, told_end}
use Rattle.lobby_holds.specs.Talk.{IsDrain, IsTalk, AreDrains, AreTalk, EndsDry}

pub are_talk-append : (c : ℕ) (t u : List Moment) → AreTalk c t → AreTalk c u → AreTalk c (t ++ u)
are_talk-append c [] u h k = k
are_talk-append c (m ∷ t) u h k = (h.0, are_talk-append c t u h.1 k)

pub are_drains-append : (c : ℕ) (t u : List Moment) → AreDrains c t → AreDrains c u → AreDrains c (t ++ u)
are_drains-append c [] u h k = k
are_drains-append c (m ∷ t) u h k = (h.0, are_drains-append c t u h.1 k)

drain_is_talk : (c : ℕ) (e : Event) → IsDrain c e → IsTalk c e
drain_is_talk c (event.Drain d n) h = h
drain_is_talk c (event.Say d request) h = absurd h
drain_is_talk c (event.Open ip home) h = absurd h
drain_is_talk c (event.Shut d) h = absurd h

pub drains_are_talk : (c : ℕ) (t : List Moment) → AreDrains c t → AreTalk c t
drains_are_talk c [] h = tt
drains_are_talk c (m ∷ t) h = (drain_is_talk c m.event h.0, drains_are_talk c t h.1)

drain_asks : (c : ℕ) (e : Event) → IsDrain c e → asked e ≡ []
drain_asks c (event.Drain d n) h = refl
drain_asks c (event.Say d request) h = absurd h
drain_asks c (event.Open ip home) h = absurd h
drain_asks c (event.Shut d) h = absurd h

-- drains say no request to the lobby
pub drains_ask : (c : ℕ) (t : List Moment) → AreDrains c t → requests t ≡ []
drains_ask c [] h = refl
drains_ask c (m ∷ t) h = ap (λ l. l ++ requests t) (drain_asks c m.event h.0) ∙ drains_ask c t h.1

one_each : (e : Event) → length (asked e) + length (questioned e) ≤ 1
one_each (event.Say c request) = omega arith
one_each (event.Drain c zero) = omega arith
one_each (event.Drain c (suc n)) = omega arith
one_each (event.Open ip home) = omega arith
one_each (event.Shut c) = omega arith

no_more : (t : List Moment) → length (requests t) + length (questions t) ≤ length t
no_more [] = omega arith
no_more (m ∷ t) =
    omega (arith, one_each m.event, no_more t, length-append (asked m.event) (requests t), length-append (questioned m.event) (questions t))

none_of : (xs : List ℕ) → length xs ≤ 0 → xs ≡ []
none_of [] few = refl
none_of (x ∷ xs) few = absurd (omega (arith, few))

-- who only says requests to the lobby asks nothing
pub only_requests : (t : List Moment) → length t ≡ length (requests t) → questions t ≡ []
only_requests t only = none_of (questions t) (omega (arith, no_more t, only))

drain_touches : (c : ℕ) (s : State) (e : Event) (home : ℕ) → IsDrain c e → touches s e home ≡ false
drain_touches c s (event.Drain d n) home h = quiet_touches s (event.Drain d n) home (λ d. refl)
drain_touches c s (event.Say d request) home h = absurd h
drain_touches c s (event.Open ip by) home h = absurd h
drain_touches c s (event.Shut d) home h = absurd h

-- drains touch nobody
pub drains_touch : (c : ℕ) (t : List Moment) (home : ℕ) → AreDrains c t → touched t home ≡ false
drains_touch c [] home h = refl
drains_touch c (m ∷ t) home h = ap (λ b. b || touched t home) (drain_touches c m.met m.event home h.0) ∙ drains_touch c t home h.1

pub touched-append : (t u : List Moment) (home : ℕ) → touched (t ++ u) home ≡ (touched t home || touched u home)
touched-append t u home = list_any-append (λ (m : Moment). touches m.met m.event home) t u

pub told_end-append : (t u : List Moment) → told_end (t ++ u) ≡ (told_end t || told_end u)
told_end-append t u = list_any-append (λ (m : Moment). tells_end m.met m.event) t u

-- what was calm stays calm
pub calm-append : (t u : List Moment) → told_end t ≡ false → told_end u ≡ false → told_end (t ++ u) ≡ false
calm-append t u h k = told_end-append t u ∙ ap (λ b. b || told_end u) h ∙ k

pub finished-append : (t u : List Moment) → told_end u ≡ true → told_end (t ++ u) ≡ true
finished-append t u k = told_end-append t u ∙ ap (λ b. told_end t || b) k ∙ or-true (told_end t)

-- behind drains the touched are those from before
pub touched_drained : (c : ℕ) (t u : List Moment) (home : ℕ) → AreDrains c u → touched (t ++ u) home ≡ touched t home
touched_drained c t u home h = touched-append t u home ∙ ap (λ b. touched t home || b) (drains_touch c u home h) ∙ or-false (touched t home)

pub dry_behind : (c : ℕ) (t u : List Moment) → EndsDry c u → EndsDry c (t ++ u)
dry_behind c t u h =
    (t ++ h.0, h.1, h.2, ap (λ l. t ++ l) h.3 ∙ sym (append_assoc t h.0 (moment h.1 (event.Drain c h.2) ∷ [])), h.4, h.5)

-- what a clause says of a result that is known
pub from_ok : {A E : Type 0} (r : Result A E) (x : A) (P : A → Type 0) → r ≡ Ok x → IfOk r P → P x
from_ok r x P e h = subst (λ (s : Result _ _). IfOk s P) e h

pub from_err : {A E : Type 0} (r : Result A E) (x : E) (P : Type 0) → r ≡ Err x → OnErr r P → P
from_err r x P e h = subst (λ (s : Result _ _). OnErr s P) e h
