-- What guards find, and what one who passes them comes to.
use Rattle.std.proofs.Common.{◌≡◌, ℕ, List, [], ◌∷◌, ◌++◌, refl, sym, ap, subst, ◌∙◌, Bool, true, false}
use Rattle.std.specs.Prelude.{Some, find, if◌then◌else◌}
use Rattle.std.proofs.lemmas.Option.{same_Some}
use Rattle.reply_kinds.specs.declared.Reply.{Reply}
use Rattle.lobby_model.specs.State.{State}
use Rattle.lobby_model.specs.Outcome.{Happening, done, refuse_if}
use Rattle.lobby_post.specs.Posted.{Posted, Told}
use Rattle.lobby_maps.specs.declared.change.Change.{Change}
use Rattle.lobby_maps.specs.Changes.{CanBe, changed}
use Rattle.battle_rules.specs.Answers.{Obeyed}

-- what is found passes the test
pub found_passes : {X : Type 0} (p : X → Bool) (xs : List X) (x : X) → find p xs ≡ Some x → p x ≡ true
found_passes p [] x is = absurd (cc)
found_passes p (y ∷ xs) x is =
    elim (p y) as (λ b. p y ≡ b → (if b then Some y else find p xs) ≡ Some x → p x ≡ true) [
      | true ↦ λ t e. ap p (sym (same_Some y x e)) ∙ t
      | false ↦ λ t e. found_passes p xs x e
    ] refl is

-- one who passes a check: what then happens was told, and is the change
pub passes : (s : State) (c : ℕ) (old new : Posted) (failing : Bool) (r : Reply) (h : Happening) (change : Change) → failing ≡ false
    → Told s old new (h.told ++ []) → h.after s ≡ changed s c change → CanBe s.clients s.users s.channels s.battles c change
    → Obeyed s c old new change (refuse_if failing r (done h))
passes s c old new failing r h change fine told effect can_be =
    subst (λ b. Obeyed s c old new change (refuse_if b r (done h))) (sym fine) (record { told = told; effect = effect; can_be = can_be })
