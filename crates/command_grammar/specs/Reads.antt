-- What a line asks for, by how it is composed.
use Rattle.std.specs.Prelude.{◌≡◌, ℕ, ◌<◌, ◌≤◌, not, List, [], ◌∷◌, ◌++◌, length, Option, Some, None, IsTrue, MatchBool}
use Rattle.line_words.specs.Bytes.{has_byte, is_spaces, is_text}
use Rattle.line_words.specs.Words.{BeginsApart, EndsWord, SkipsSpaces}
use Rattle.line_words.specs.Numbers.{is_digits, value_of}
use Rattle.command_grammar.specs.declared.command.ReadFault.TheVariants as fault
use Rattle.command_grammar.specs.declared.command.Command.{Command}
use Rattle.command_grammar.specs.declared.command.Command.TheVariants as command
use Rattle.command_grammar.specs.declared.command.Request.{Request}
use Rattle.command_grammar.specs.Arguments.{IsFault}
use Rattle.command_grammar.specs.Forms.{command_named, Form}

-- a client's line has at most so many bytes before its LF, a CR that is dropped counted
abbrev pub line_limit : ℕ
line_limit = 8192

-- the largest message id
abbrev pub id_limit : ℕ
id_limit = 2147483647

-- `#`, 1 to 10 digits that are at most the largest id, and at least one space stand before the text
pub record HasId (line text : List ℕ) (id : ℕ) : Type 0 where
  pub digits : List ℕ
  pub gap : List ℕ
  pub whole : line ≡ 35 ∷ (digits ++ (gap ++ text))
  pub are_digits : IsTrue (is_digits digits)
  pub value : id ≡ value_of digits
  pub fits : id ≤ id_limit
  pub spaces : IsTrue (is_spaces gap)
  pub some_space : 0 < length gap
  pub apart : BeginsApart text

-- the id, if the line has one, and the text behind it; a line without an id is text as it stands
abbrev pub Carries : List ℕ → Option ℕ → List ℕ → Type 0
Carries line (Some id) text = HasId line text id
Carries line None text = (line ≡ text) × ((other : List ℕ) (id : ℕ) → HasId line other id → ⊥)

-- the command word is all up to the next space, and its form says what the rest makes
pub record Composed (text : List ℕ) (c : Command) : Type 0 where
  pub name : List ℕ
  pub rest : List ℕ
  pub whole : text ≡ name ++ rest
  pub no_space : IsTrue (not (has_byte 32 name))
  pub ends : EndsWord rest
  pub form : Form (command_named name) rest c

-- no text is a blank line, and a CR or LF in it a bad byte
abbrev pub Asks : List ℕ → Command → Type 0
Asks [] c = c ≡ command.Blank
Asks (b ∷ bs) c = MatchBool (is_text (b ∷ bs)) (Composed (b ∷ bs) c) (IsFault fault.BadByte c)

-- the line is spaces, perhaps an id, and the text of the command
pub record Reads (line : List ℕ) (request : Request) : Type 0 where
  pub trimmed : List ℕ
  pub text : List ℕ
  pub skips : SkipsSpaces line trimmed
  pub carries : Carries trimmed request.id text
  pub asks : Asks text request.command
