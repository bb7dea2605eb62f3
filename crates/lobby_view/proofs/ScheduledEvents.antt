-- A schedule whose addresses are addresses gives a legal history.
use Rattle.std.proofs.Common.{◌≡◌, ℕ, zero, suc, ◌≤◌, List, [], ◌∷◌, refl, sym, ap, subst, ◌∙◌, Bool, true, false, length, arith}
use Rattle.std.specs.Prelude.{Option, Some, None, map, slice_get, MatchBool, if◌then◌else◌}
use Rattle.std.proofs.lemmas.Bool.{leb-true}
use Rattle.std.proofs.lemmas.Option.{same_Some}
use Rattle.line_framer.specs.Frames.{frames, lines_in, sound_lines, without_cr, fits, is_spoilt}
use Rattle.line_framer.proofs.Buffer.{without_cr_shorter}
use Rattle.lobby_model.specs.declared.event.Event.{Event}
use Rattle.lobby_model.specs.declared.event.Event.TheVariants as event
use Rattle.lobby_model.specs.declared.schedule.Step.{Step}
use Rattle.lobby_model.specs.declared.schedule.Step.TheVariants as step
use Rattle.lobby_model.specs.State.{State}
use Rattle.lobby_model.specs.Sessions.{has_place}
use Rattle.lobby_model.specs.Next.{next}
use Rattle.lobby_model.specs.History.{after}
use Rattle.lobby_model.specs.Schedule.{World, is_open, input, with_bytes, moved, line_limit, TakeGives, StepGives, Gives}
use Rattle.lobby_model.proofs.Histories.{after-append}
use Rattle.lobby_view.specs.Legal.{IsLegal, IsLegalHistory, IsLegalStep, IsLegalSchedule}
use Rattle.lobby_view.proofs.Everywhere.{Each, each_append}

-- frames are no longer than the limit
all_short : (limit : ℕ) (ls : List (List ℕ)) → Each (λ l. length l ≤ limit) (map without_cr (sound_lines limit ls))
all_short limit [] = tt
all_short limit (l ∷ ls) =
    elim (fits limit l) as (λ t. fits limit l ≡ t → Each (λ l. length l ≤ limit) (map without_cr (if t then l ∷ sound_lines limit ls else []))) [
      | true ↦ λ e. let short = leb-true (length l) limit e in let less = without_cr_shorter l in ((omega arith), all_short limit ls)
      | false ↦ λ e. tt
    ] refl

one_of : {X : Type 0} (P : X → Type 0) (xs : List X) (i : ℕ) (x : X) → Each P xs → slice_get xs i ≡ Some x → P x
one_of P [] i x all e = absurd (cc)
one_of P (y ∷ xs) zero x all e = subst P (same_Some y x e) all.0
one_of P (y ∷ xs) (suc i) x all e = one_of P xs i x all.1 e

-- what steps give: legal events, and the lobby after them
pub record Given (start : State) (events : List Event) (end : State) : Type 0 where
  pub legal : IsLegalHistory events
  pub lobby : end ≡ after start events

lobbies : (w new : World) → new ≡ w → new.lobby ≡ w.lobby
lobbies w new is = ap (λ (v : World). v.lobby) is

none_given : (w new : World) (events : List Event) → events ≡ [] → new.lobby ≡ w.lobby → Given w.lobby events new.lobby
none_given w new events none same =
    record { legal = subst IsLegalHistory (sym none) tt; lobby = same ∙ ap (after w.lobby) (sym none) }

of_one : (w new : World) (events made : List Event) → IsLegalHistory made → events ≡ made → new ≡ moved w events → Given w.lobby events new.lobby
of_one w new events made legal is next = record { legal = subst IsLegalHistory (sym is) legal; lobby = lobbies (moved w events) new next }

if_open : (b : Bool) (e : Event) → IsLegal e → IsLegalHistory (if b then e ∷ [] else [])
if_open true e legal = (legal, tt)
if_open false e legal = tt

taken : (w new : World) (c : ℕ) (o : Option (List ℕ)) (events : List Event)
    → slice_get (frames (input w c).bytes line_limit) (input w c).taken ≡ o → TakeGives w c o events new → Given w.lobby events new.lobby
taken w new c None events is gives =
    of_one w new events _ (if_open (is_spoilt (input w c).bytes line_limit) (event.Shut c) tt) gives.0 gives.1
taken w new c (Some line) events is gives =
    let short = one_of (λ l. length l ≤ line_limit) (frames (input w c).bytes line_limit) (input w c).taken line
    (all_short line_limit (lines_in (input w c).bytes)) is in
    record { legal = subst IsLegalHistory (sym gives.2) ((line, gives.1, short), tt); lobby = ap (λ (v : World). v.lobby) gives.3 }

one_step : (w new : World) (s : Step) (events : List Event) → IsLegalStep s → StepGives w s events new → Given w.lobby events new.lobby
one_step w new (step.Open ip home) events legal gives = of_one w new events _ (if_open (has_place w.lobby) (event.Open ip home) legal) gives.0 gives.1
one_step w new (step.Arrive c bytes) events legal gives =
    none_given w new events gives.0 (ap (λ (v : World). v.lobby) gives.1
    ∙ elim (is_open w c) as (λ b. (if b then with_bytes w c bytes else w).lobby ≡ w.lobby) [ true ↦ refl | false ↦ refl ])
one_step w new (step.Take c) events legal gives =
    elim (is_open w c) as (λ b. MatchBool b (TakeGives w c (slice_get (frames (input w c).bytes line_limit) (input w c).taken) events new)
    ((events ≡ []) × (new ≡ w)) → Given w.lobby events new.lobby) [
      | true ↦ λ g. taken w new c (slice_get (frames (input w c).bytes line_limit) (input w c).taken) events refl g
      | false ↦ λ g. none_given w new events g.0 (lobbies w new g.1)
    ] gives
one_step w new (step.Read c n) events legal gives = of_one w new events _ (if_open (is_open w c) (event.Drain c n) tt) gives.0 gives.1
one_step w new (step.Shut c) events legal gives = of_one w new events _ (if_open (is_open w c) (event.Shut c) tt) gives.0 gives.1

-- what a schedule gives
pub given : (w new : World) (steps : List Step) (events : List Event) → IsLegalSchedule steps → Gives w steps events new → Given w.lobby events new.lobby
given w new [] events legal gives = none_given w new events gives.0 (lobbies w new gives.1)
given w new (s ∷ steps) events legal gives =
    let first = one_step w gives.2 s gives.0 legal.0 gives.3 in
    let rest = given gives.2 new steps gives.1 legal.1 gives.4 in
    record {
      legal = subst IsLegalHistory (sym gives.5) (each_append IsLegal gives.0 gives.1 first.legal rest.legal);
      lobby = rest.lobby ∙ ap (λ t. after t gives.1) first.lobby ∙ sym (after-append w.lobby gives.0 gives.1) ∙ ap (after w.lobby) (sym gives.5);
    }
