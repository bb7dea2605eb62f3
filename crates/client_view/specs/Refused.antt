-- What stays where memory was refused to a change.
use Rattle.std.specs.Prelude.{◌≡◌, true, false}
use Rattle.noted_map.specs.Undoable.{Undoable}

-- What was before, where changes are noted; else nothing changed
pub record Refused {A : Type 0} (old new : Undoable A) : Type 0 where
  pub now : old.noting ≡ false → new.now ≡ old.now
  pub before : old.noting ≡ true → new.before ≡ old.before
  pub noting : new.noting ≡ old.noting
