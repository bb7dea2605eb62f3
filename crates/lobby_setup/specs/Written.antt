-- What a text says as one form of text writes it.
use Rattle.std.specs.Prelude.{◌≡◌, ℕ, List, Result, Ok, Err}
use Rattle.toml_fields.specs.declared.fault.FieldFault.{FieldFault}
use Rattle.toml_fields.specs.declared.fault.FieldFault.TheVariants.{NotAllowed}

-- the value that it writes, or that it is not allowed, since it writes none
abbrev pub IsWritten : {X : Type 0} → (List ℕ → X → Type 0) → Result (List ℕ) FieldFault → Result X FieldFault → Type 0
IsWritten Writes (Ok text) (Ok value) = Writes text value
IsWritten {X} Writes (Ok text) (Err fault) = (fault ≡ NotAllowed) × ((value : X) → Writes text value → ⊥)
IsWritten Writes (Err unread) said = said ≡ Err unread
