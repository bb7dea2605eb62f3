-- What reading a line gives, as a function: the readers are proved by it, and it is proved to give what a line reads
-- as.
use Rattle.std.specs.Prelude.{ℕ, ◌&&◌, ◌==◌, nat_le, if◌then◌else◌, Bool, List, [], ◌∷◌, length, Option, Some, None}
use Rattle.std.specs.Prelude.{Result, Ok, Err}
use Rattle.line_words.specs.Bytes.{is_text}
use Rattle.line_words.specs.Parts.{before, from}
use Rattle.line_words.specs.Numbers.{is_digits, value_of}
use Rattle.command_grammar.specs.declared.command.ReadFault.{ReadFault}
use Rattle.command_grammar.specs.declared.command.ReadFault.TheVariants as fault
use Rattle.command_grammar.specs.declared.command.Command.{Command}
use Rattle.command_grammar.specs.declared.command.Command.TheVariants as command
use Rattle.command_grammar.specs.declared.command.Request.{Request}
use Rattle.command_grammar.specs.Forms.{command_named}
use Rattle.command_grammar.specs.Readers.{command_of, without_spaces, known_at}
use Rattle.command_grammar.specs.Reads.{id_limit}

-- the command of a text
unfoldable pub text_of : List ℕ → Result Command ReadFault
text_of text =
    if length text == 0 then Ok command.Blank
    else (if is_text text then known_at (command_named (before 32 text)) (from 32 text) else Err fault.BadByte)

-- 1 to 10 digits, of at most the largest id
abbrev pub is_id : List ℕ → Bool
is_id digits = is_digits digits && nat_le (value_of digits) id_limit

-- the id that these digits are
abbrev pub id_of : List ℕ → Option ℕ
id_of digits = if is_id digits then Some (value_of digits) else None

-- an id has at least one space behind it
abbrev pub with_id : List ℕ → Option ℕ → List ℕ → Option ℕ × List ℕ
with_id line None behind = (None, line)
with_id line (Some id) [] = (None, line)
with_id line (Some id) (b ∷ bs) = (Some id, without_spaces (b ∷ bs))

-- the id, if there is one, and the text behind it
unfoldable pub numbered : List ℕ → Option ℕ × List ℕ
numbered [] = (None, [])
numbered (b ∷ bs) = if b == 35 then with_id (b ∷ bs) (id_of (before 32 bs)) (from 32 bs) else (None, b ∷ bs)

-- the request of an id and a text
abbrev pub request_with : Option ℕ × List ℕ → Request
request_with found = record { id = found.0; command = command_of (text_of found.1) }

-- the request that a line reads as
unfoldable pub request_of : List ℕ → Request
request_of line = request_with (numbered (without_spaces line))
