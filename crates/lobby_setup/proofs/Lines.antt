-- Values without a fault are the lines of a message of the day.
use Rattle.std.proofs.Common.{◌≡◌, ℕ, ◌+◌, ◌≤◌, Bool, true, false, length, [], Some, None, refl, arith}
use Rattle.std.specs.Prelude.{◌&&◌, nat_le, unwrap_or, if◌then◌else◌}
use Rattle.std.specs.Option.{option_map_or}
use Rattle.std.specs.List.{list_all}
use Rattle.std.proofs.lemmas.Bool.{and_parts, and_from, leb-true}
use Rattle.line_words.specs.Bytes.{is_text}
use Rattle.toml.specs.Data.{Data, Items, no_items, item, as_str}
use Rattle.toml_fields.specs.declared.fault.FieldFault.TheVariants.{OtherKind, NotAllowed}
use Rattle.lobby_model.specs.Configuration.{is_motd_line}
use Rattle.lobby_setup.specs.declared.error.Refusal.TheVariants.{MotdLine}
use Rattle.lobby_setup.specs.Motd.{line_fault, line_of, lines_of, motd_fault}

fits : (b : Bool) → (if b then None else Some NotAllowed) ≡ None → b ≡ true
fits true e = refl
fits false e = cc

-- a value without a fault stands among the first 100, and its text is a line
faultless : (place : ℕ) (value : Data) → line_fault place value ≡ None
    → (nat_le place 100 ≡ true) × (is_motd_line (line_of value) ≡ true)
faultless place value none =
    elim (as_str value) as (λ found. option_map_or (λ line. if nat_le place 100 && is_motd_line line then None else Some NotAllowed) found (Some OtherKind) ≡ None
    → (nat_le place 100 ≡ true) × (is_motd_line (unwrap_or found []) ≡ true)) [
      | None ↦ λ e. absurd (cc)
      | Some line ↦ λ e. and_parts (nat_le place 100) (is_motd_line line) (fits _ e)
    ] none

-- the first of values without a fault has none, and neither have the others
parted : (place : ℕ) (value : Data) (values : Items) → motd_fault place (item value values) ≡ None
    → (line_fault place value ≡ None) × (motd_fault (place + 1) values ≡ None)
parted place value values none =
    elim (line_fault place value) as (λ fault. option_map_or (λ fault. Some (MotdLine place fault)) fault (motd_fault (place + 1) values) ≡ None
    → (fault ≡ None) × (motd_fault (place + 1) values ≡ None)) [
      | None ↦ λ e. (refl, e)
      | Some fault ↦ λ e. absurd (cc)
    ] none

-- they are at most 100, each a line
pub allowed : (place : ℕ) (values : Items) → place ≤ 101 → motd_fault place values ≡ None
    → (length (lines_of values) + place ≤ 101) × (list_all is_motd_line (lines_of values) ≡ true)
allowed place no_items small none = (omega arith, refl)
allowed place (item value values) small none =
    let parts = parted place value values none in
    let here = faultless place value parts.0 in
    let place_small = leb-true place 100 here.0 in
    let rest = allowed (place + 1) values (omega (arith, place_small)) parts.1 in
    (omega (arith, rest.0), and_from (is_motd_line (line_of value)) _ here.1 rest.1)

-- the first is a text of a protocol's line
pub first_is_text : (place : ℕ) (value : Data) (values : Items) → motd_fault place (item value values) ≡ None
    → is_text (line_of value) ≡ true
first_is_text place value values none =
    (and_parts _ (is_text (line_of value)) (faultless place value (parted place value values none).0).1).1

pub later : (place : ℕ) (value : Data) (values : Items) → motd_fault place (item value values) ≡ None
    → motd_fault (place + 1) values ≡ None
later place value values none = (parted place value values none).1
