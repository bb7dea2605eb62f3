-- What can be taken back: how it is now, and how it was when noting began.
use Rattle.std.specs.Prelude.{◌≡◌, Bool, true, refl}
use Rattle.std.specs.Coded.{Coded, code_by, coded×, coded_bool}

pub record Undoable (A : Type 0) : Type 0 where
  -- what readers show
  pub now : A
  -- what it was when noting began
  pub before : A
  -- whether changes are noted
  pub noting : Bool

abbrev pub undoable_code : {A : Type 0} → Coded A → Coded (Undoable A)
undoable_code {A} code =
    code_by ((A × A) × Bool) (coded× (coded× code code) coded_bool) (λ u. ((u.now, u.before), u.noting)) (λ p.
    record { now = p.0.0; before = p.0.1; noting = p.1 }) (λ _. refl)

-- One change: what was before stays while changes are noted, and nothing is said of it while none is
pub record Changes {A : Type 0} (f : A → A) (old new : Undoable A) : Type 0 where
  pub now : new.now ≡ f old.now
  pub before : old.noting ≡ true → new.before ≡ old.before
  pub noting : new.noting ≡ old.noting
