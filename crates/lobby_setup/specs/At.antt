-- What a table says at a key, whose name is told where it is refused.
use Rattle.std.specs.Prelude.{Result, Ok, Err}
use Rattle.toml.specs.Data.{Data, Members}
use Rattle.toml_fields.specs.Fields.{optional}
use Rattle.toml_fields.specs.declared.fault.FieldFault.{FieldFault}
use Rattle.lobby_setup.specs.Keys.{name_of}
use Rattle.lobby_setup.specs.declared.key.Key.{Key}
use Rattle.lobby_setup.specs.declared.error.Refusal.{Refusal}
use Rattle.lobby_setup.specs.declared.error.Refusal.TheVariants.{Field}

-- what is said at a key
abbrev pub at : {X : Type 0} → Key → Result X FieldFault → Result X Refusal
at key (Ok value) = Ok value
at key (Err fault) = Err (Field key fault)

-- what is said at a key that may be missing
abbrev pub field : {X : Type 0} → Key → (Data → Result X FieldFault) → X → Members → Result X Refusal
field key read default table = at key (optional read default (name_of key) table)
