-- How many bytes the arguments of a command take on its line.
use Rattle.std.specs.Prelude.{ℕ, ◌+◌, List, [], ◌∷◌, length, Option, Some, None, sum_by}
use Rattle.line_words.specs.declared.lists.Pair.{Pair}
use Rattle.command_grammar.specs.declared.command.Command.{Command}
use Rattle.command_grammar.specs.Table.{Kind, Word, OptionalWord, Name, Natural, Wide, Flag, Sentence, Text}
use Rattle.command_grammar.specs.Table.{OptionalText, LoginFlags, Pairs, Words, Value, Values, arguments_of}

-- an argument, with the byte that parts it from what stands before
abbrev pub size : List ℕ → ℕ
size argument = 1 + length argument

abbrev pub optional_size : Option (List ℕ) → ℕ
optional_size None = 0
optional_size (Some argument) = size argument

-- a pair, with its `=`
abbrev pub pair_size : Pair → ℕ
pair_size p = size p.key + size p.value

-- the bytes of an argument that are kept, numbers aside
abbrev pub size_of : (k : Kind) → Value k → ℕ
size_of Word w = size w
size_of OptionalWord o = optional_size o
size_of Name w = size w
size_of (Natural high) n = 0
size_of Wide z = 0
size_of Flag b = 0
size_of Sentence s = size s
size_of Text t = size t
size_of OptionalText o = optional_size o
size_of LoginFlags b = 0
size_of Pairs ps = sum_by pair_size ps
size_of Words ws = sum_by size ws

abbrev pub sizes_of : (ks : List Kind) → Values ks → ℕ
sizes_of [] xs = 0
sizes_of (k ∷ ks) xs = size_of k xs.0 + sizes_of ks xs.1

-- the bytes of all arguments
abbrev pub argument_bytes : Command → ℕ
argument_bytes c = sizes_of (arguments_of c).kinds (arguments_of c).values
