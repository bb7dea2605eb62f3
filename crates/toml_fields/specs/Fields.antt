-- What the keys of a table say.
use Rattle.std.specs.Prelude.{ℕ, pos, negsuc, ℤ, Bool, ◌&&◌, nat_le, List, String, Option, Some, option_map, Result}
use Rattle.std.specs.Prelude.{Ok, Err, if◌then◌else◌}
use Rattle.std.specs.Option.{option_map_or}
use Rattle.std.specs.Borrow.{Bor}
use Rattle.std.specs.BTreeMap.{BTreeMap}
use Rattle.std.specs.declared.alloc.Global.{Global}
use Rattle.toml.specs.Data.{Data, Items, Members, get_member, as_integer, as_bool, as_str, as_array, as_table}
use Rattle.toml.specs.View.{items_view, table_view}
use Rattle.toml.specs.declared.value.Value.{Value}
use Rattle.toml_fields.specs.declared.fault.FieldFault.{FieldFault}
use Rattle.toml_fields.specs.declared.fault.FieldFault.TheVariants.{Missing, OtherKind, NotAllowed}

infixl 10 ◌>>=◌
abbrev pub ◌>>=◌ : {A B E : Type 0} → Result A E → (A → Result B E) → Result B E
Ok value >>= next = next value
Err fault >>= next = Err fault

-- what a value is that has to be of one kind
abbrev pub of_kind : {X : Type 0} → Option X → Result X FieldFault
of_kind found = option_map_or Ok found (Err OtherKind)

-- a text
abbrev pub text : Data → Result (List ℕ) FieldFault
text value = of_kind (as_str value)

-- true or false
abbrev pub flag : Data → Result Bool FieldFault
flag value = of_kind (as_bool value)

-- a list
abbrev pub list : Data → Result Items FieldFault
list value = of_kind (as_array value)

-- a table, which is there
abbrev pub section : Data → Result (Option Members) FieldFault
section value = of_kind (option_map Some (as_table value))

abbrev pub within : ℕ → ℕ → ℤ → Result ℕ FieldFault
within low high (pos n) = if nat_le low n && nat_le n high then Ok n else Err NotAllowed
within low high (negsuc n) = Err NotAllowed

-- a whole number from a lowest to a highest one
abbrev pub number : ℕ → ℕ → Data → Result ℕ FieldFault
number low high value = of_kind (as_integer value) >>= within low high

-- what a key says that has to be there, and one that may be missing
abbrev pub required : {X : Type 0} → (Data → Result X FieldFault) → List ℕ → Members → Result X FieldFault
required read key table = option_map_or read (get_member key table) (Err Missing)

abbrev pub optional : {X : Type 0} → (Data → Result X FieldFault) → X → List ℕ → Members → Result X FieldFault
optional read default key table = option_map_or read (get_member key table) (Ok default)

-- what the code answers, with what it lends in place of the reference to it
abbrev pub lent : {X E : Type 0} → Result (Bor X) E → Result X E
lent (Ok value) = Ok value.now
lent (Err fault) = Err fault

abbrev pub seen_list : {E : Type 0} → Result (Bor (List Value)) E → Result Items E
seen_list (Ok values) = Ok (items_view values.now)
seen_list (Err fault) = Err fault

abbrev pub seen_section : {E : Type 0} → Result (Option (Bor (BTreeMap (String Global) Value))) E
    → Result (Option Members) E
seen_section (Ok found) = Ok (option_map (λ table. table_view table.now) found)
seen_section (Err fault) = Err fault
