-- What keeps a request from being printed.
use Rattle.std.specs.Prelude.{◌≡◌, ℕ, ◌<◌, ◌≤◌, Bool, true, false, not, ◌&&◌, ◌||◌, nat_le, if◌then◌else◌, is_some}
use Rattle.std.specs.Prelude.{List, [], ◌∷◌, ◌++◌, length, Option, Some, None, IsTrue, Vec}
use Rattle.line_words.specs.Kinds.{is_wide}
use Rattle.command_grammar.specs.declared.command.Command.{Command}
use Rattle.command_grammar.specs.declared.command.Command.TheVariants as command
use Rattle.command_grammar.specs.declared.command.ReadFault.{ReadFault}
use Rattle.command_grammar.specs.declared.command.Request.{Request}
use Rattle.command_grammar.specs.Kinds.{keeps_kinds}
use Rattle.command_grammar.specs.Table.{Kind, OptionalWord, Natural, Wide, OptionalText, LoginFlags, Pairs, Words}
use Rattle.command_grammar.specs.Table.{Value, Values, arguments_of}
use Rattle.command_grammar.specs.Reads.{id_limit, Reads}
pub use Rattle.command_grammar.specs.Reads.{line_limit}
use Rattle.reply_printer.specs.Fronts.{LacksRoom}
use Rattle.request_printer.specs.declared.error.PrintError.{PrintError}
use Rattle.request_printer.specs.declared.error.PrintError.TheVariants.{Unread, OutOfRange, NothingListed, Skipped}
use Rattle.request_printer.specs.declared.error.PrintError.TheVariants.{TooLong, Memory}
use Rattle.request_printer.specs.Writing.{Writes}

-- those before are, and each of these numbers is in the range of its argument
abbrev pub in_range : Bool → (ks : List Kind) → Values ks → Bool
in_range before [] xs = before
in_range before (Natural high ∷ ks) xs = in_range (before && nat_le xs.0 high) ks xs.1
in_range before (Wide ∷ ks) xs = in_range (before && is_wide xs.0) ks xs.1
in_range before (k ∷ ks) xs = in_range before ks xs.1

-- those before have, and each of these lists has something in it
abbrev pub all_listed : Bool → (ks : List Kind) → Values ks → Bool
all_listed before [] xs = before
all_listed before (Pairs ∷ ks) xs = all_listed (before && nat_le 1 (length xs.0)) ks xs.1
all_listed before (Words ∷ ks) xs = all_listed (before && nat_le 1 (length xs.0)) ks xs.1
all_listed before (k ∷ ks) xs = all_listed before ks xs.1

-- the argument is not there
abbrev pub is_absent : (k : Kind) → Value k → Bool
is_absent OptionalWord o = not (is_some o)
is_absent OptionalText o = not (is_some o)
is_absent LoginFlags b = not b
is_absent k x = false

abbrev pub all_absent : (ks : List Kind) → Values ks → Bool
all_absent [] xs = true
all_absent (k ∷ ks) xs = is_absent k xs.0 && all_absent ks xs.1

-- an optional word is missing before an argument that is there
abbrev pub has_gap : (ks : List Kind) → Values ks → Bool
has_gap [] xs = false
has_gap (OptionalWord ∷ ks) xs = (not (all_absent ks xs.1) && not (is_some xs.0)) || has_gap ks xs.1
has_gap (k ∷ ks) xs = has_gap ks xs.1

-- what keeps arguments from being read back
abbrev pub fault_in : (ks : List Kind) → Values ks → Option PrintError
fault_in ks xs =
    if in_range true ks xs then (if all_listed true ks xs then (if has_gap ks xs then Some Skipped else None) else Some
    NothingListed) else Some OutOfRange

abbrev pub argument_fault : Command → Option PrintError
argument_fault c = fault_in (arguments_of c).kinds (arguments_of c).values

-- the id is in its range
abbrev pub is_id : Option ℕ → Bool
is_id None = true
is_id (Some id) = nat_le id id_limit

-- what keeps the request from being printed, however long its line is
abbrev pub fault_of : Request → Option PrintError
fault_of r = if is_id r.id then argument_fault r.command else Some OutOfRange

-- the line of the request, with its LF, stands behind what was there, and reads as the request alone
pub record Printed (r : Request) (old new : List ℕ) : Type 0 where
  pub line : List ℕ
  pub writes : Writes r line
  pub whole : new ≡ old ++ (line ++ 10 ∷ [])
  pub fits : length line ≤ line_limit
  pub reads : IsTrue (keeps_kinds r.command) → Reads line r

-- each line that reads as the request is too long
abbrev pub NoneFits : Request → Type 0
NoneFits r = (line : List ℕ) → Reads line r → line_limit < length line

-- a line that was not read
abbrev pub IsUnread : Command → Type 0
IsUnread c = (f : ReadFault) × (c ≡ command.Unread f)

-- why a line is not put
abbrev pub LineRefused : PrintError → List ℕ → Type 0
LineRefused Memory line = Unit {0}
LineRefused TooLong line = line_limit < length line
LineRefused e line = ⊥

-- there is no room for the line of the request, with its LF
pub record WantsRoom {Z : Type 0} (r : Request) (out : Vec ℕ Z) : Type 0 where
  pub line : List ℕ
  pub writes : Writes r line
  pub lacks : LacksRoom out (line ++ 10 ∷ [])

-- what an error says of the request
abbrev pub Refuses : PrintError → Request → Type 0
Refuses Memory r = (fault_of r ≡ None) × (IsUnread r.command → ⊥)
Refuses TooLong r = (fault_of r ≡ None) × NoneFits r
Refuses Unread r = IsUnread r.command
Refuses e r = (fault_of r ≡ Some e) × ((line : List ℕ) → Reads line r → ⊥)
