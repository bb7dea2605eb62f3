-- The message of the day: its lines, and the first value of a list that cannot be one.
use Rattle.std.specs.Prelude.{ℕ, ◌+◌, ◌&&◌, nat_le, List, [], ◌∷◌, Option, Some, None, unwrap_or, if◌then◌else◌}
use Rattle.std.specs.Option.{option_map_or}
use Rattle.toml.specs.Data.{Data, Items, no_items, item, as_str}
use Rattle.toml_fields.specs.declared.fault.FieldFault.{FieldFault}
use Rattle.toml_fields.specs.declared.fault.FieldFault.TheVariants.{OtherKind, NotAllowed}
use Rattle.lobby_model.specs.Configuration.{is_motd_line, motd_limit}
use Rattle.lobby_setup.specs.declared.error.Refusal.{Refusal}
use Rattle.lobby_setup.specs.declared.error.Refusal.TheVariants.{MotdLine}

-- Why a value cannot be the line at a place, counted from 1: it is no text, or the text is none of a line, or there are
-- 100 before it
abbrev pub line_fault : ℕ → Data → Option FieldFault
line_fault place value =
    option_map_or (λ line. if nat_le place motd_limit && is_motd_line line then None else Some NotAllowed)
    (as_str value) (Some OtherKind)

-- The first of some values, of which the first has this place, that cannot be a line
abbrev pub motd_fault : ℕ → Items → Option Refusal
motd_fault place no_items = None
motd_fault place (item value values) =
    option_map_or (λ fault. Some (MotdLine place fault)) (line_fault place value) (motd_fault (place + 1) values)

-- the text of a value
abbrev pub line_of : Data → List ℕ
line_of value = unwrap_or (as_str value) []

-- The lines of some values that can all be lines
abbrev pub lines_of : Items → List (List ℕ)
lines_of no_items = []
lines_of (item value values) = line_of value ∷ lines_of values
