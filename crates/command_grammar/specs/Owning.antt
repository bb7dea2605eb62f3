-- Which commands own bytes, and so take memory.
use Rattle.std.specs.Prelude.{Bool, true, false, ◌||◌, is_some, List, [], ◌∷◌}
use Rattle.command_grammar.specs.declared.command.Command.{Command}
use Rattle.command_grammar.specs.Table.{Kind, Natural, Wide, Flag, LoginFlags, OptionalWord, OptionalText, Value}
use Rattle.command_grammar.specs.Table.{Values, arguments_of}

-- numbers and flags own no bytes; all else does, if it is there
abbrev pub owns : (k : Kind) → Value k → Bool
owns (Natural high) n = false
owns Wide z = false
owns Flag b = false
owns LoginFlags b = false
owns OptionalWord o = is_some o
owns OptionalText o = is_some o
owns k x = true

-- one of those before does, or one of these
abbrev pub any_owns : Bool → (ks : List Kind) → Values ks → Bool
any_owns before [] xs = before
any_owns before (k ∷ ks) xs = any_owns (before || owns k xs.0) ks xs.1

-- the command has a word, name, sentence, text or list of its own
abbrev pub owns_bytes : Command → Bool
owns_bytes c = any_owns false (arguments_of c).kinds (arguments_of c).values
