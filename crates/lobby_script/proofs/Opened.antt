-- The number that an open gives.
use Rattle.std.proofs.Common.{◌≡◌, ℕ, ◌+◌, Bool, true, false, not, cond, nat_eq, List, [], ◌∷◌, Some, None, refl, ap, ◌∙◌, arith, eq-eqb}
use Rattle.std.specs.Prelude.{if◌then◌else◌}
use Rattle.std.specs.Bool.{then_some}
use Rattle.std.proofs.lemmas.Bool.{eqb-true}
use Rattle.account_book.specs.Account.{Account}
use Rattle.lobby_model.specs.declared.event.Event.{Event}
use Rattle.lobby_model.specs.declared.event.Event.TheVariants as event
use Rattle.lobby_model.specs.declared.schedule.Step.TheVariants as step
use Rattle.lobby_model.specs.State.{State}
use Rattle.lobby_model.specs.Sessions.{has_place}
use Rattle.lobby_model.specs.History.{after}
use Rattle.lobby_model.specs.Schedule.{World}
use Rattle.lobby_model.specs.Configuration.{Configuration}
use Rattle.lobby_model.proofs.Origins.{last_given}
use Rattle.lobby_hall.specs.Standing.{Kept, Stands, StandsAfter}
use Rattle.lobby_script.specs.Acts.{given}

number_after : (s : State) (ip : List ℕ) (b : Bool) → has_place s ≡ b → (after s (cond b (event.Open ip 0 ∷ []) [])).last_client ≡ cond b (s.last_client + 1) s.last_client
number_after s ip true e = last_given s (event.Open ip 0) (s.last_client + 1) (ap (λ b. if b then Some (s.last_client + 1) else None) e)
number_after s ip false e = refl

not_equal : (a b : ℕ) (p : Bool) → nat_eq a b ≡ p → a ≡ b + 1 → p ≡ false
not_equal a b true h e = absurd (omega (arith, eqb-true a b h, e))
not_equal a b false h e = refl

told : (a b : ℕ) (p : Bool) → a ≡ cond p (b + 1) b → then_some (not (nat_eq a b)) a ≡ cond p (Some (b + 1)) None
told a b true e = ap (λ q. then_some (not q) a) (not_equal a b (nat_eq a b) refl e) ∙ ap Some e
told a b false e = ap (λ q. then_some (not q) a) (eq-eqb a b e)

-- a last number that rose was given
pub is_given : (old new : Kept) (settings : Configuration) (accounts : List Account) (events : List Event) (world : World) (ip : List ℕ) → Stands old settings accounts events world → StandsAfter new settings accounts events world (step.Open ip 0)
    → then_some (not (nat_eq new.lobby.last_client old.lobby.last_client)) new.lobby.last_client ≡ given world
is_given old new settings accounts events world ip stands (here, later, gives, now) =
    let before : old.lobby.last_client ≡ world.lobby.last_client = ap (λ (s : State). s.last_client) stands.lobby in
    let after_it : new.lobby.last_client ≡ later.lobby.last_client = ap (λ (s : State). s.last_client) now.lobby in
    let moved_to : later.lobby.last_client ≡ (after world.lobby here).last_client = ap (λ (w : World). w.lobby.last_client) gives.1 in
    let number = number_after world.lobby ip (has_place world.lobby) refl in
    let all : new.lobby.last_client ≡ cond (has_place world.lobby) (world.lobby.last_client + 1) world.lobby.last_client = after_it ∙ moved_to ∙ ap (λ h. (after world.lobby h).last_client) gives.0 ∙ number in
    rw before (told new.lobby.last_client world.lobby.last_client (has_place world.lobby) all)
