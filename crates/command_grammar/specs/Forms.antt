-- The form of each command's arguments, as the table has it.
use Rattle.std.specs.Prelude.{◌≡◌, ℕ, Bool, nat_eq, find, List, [], ◌∷◌, Option, Some, None}
use Rattle.std.specs.Cmp.Lexicographic.{pointwise}
use Rattle.command_grammar.specs.declared.command.ReadFault.TheVariants as fault
use Rattle.command_grammar.specs.declared.command.Command.{Command}
use Rattle.command_grammar.specs.Arguments.{IsFault, Word, OptionalWord, Name, Natural, Wide, Flag, Text, OptionalText}
use Rattle.command_grammar.specs.Arguments.{Sentence, LoginFlags, Pairs, Words}
use Rattle.command_grammar.specs.Table as kind
use Rattle.command_grammar.specs.Table.{Kind, Value, Values, Maker, Entry, entries}

-- two words are the same, byte for byte: what `==` says of slices, while `same_name` of line_words goes by their order,
-- as lists of names are searched
abbrev pub is_same : List ℕ → List ℕ → Bool
is_same = pointwise nat_eq

-- the entry of that word
abbrev pub entry_named : List Entry → List ℕ → Option Entry
entry_named es name = find (λ e. is_same name e.word) es

-- what the table has for that word
abbrev pub command_named : List ℕ → Option Entry
command_named = entry_named entries

-- an argument of this kind at the front of the rest; a text, flags, pairs and words leave no rest
abbrev pub Argument : (k : Kind) → (Value k → List ℕ → Command → Type 0) → List ℕ → Command → Type 0
Argument kind.Word K = Word K
Argument kind.OptionalWord K = OptionalWord K
Argument kind.Name K = Name K
Argument (kind.Natural high) K = Natural high K
Argument kind.Wide K = Wide K
Argument kind.Flag K = Flag K
Argument kind.Sentence K = Sentence K
Argument kind.Text K = Text (λ text. K text [])
Argument kind.OptionalText K = OptionalText (λ text. K text [])
Argument kind.LoginFlags K = LoginFlags (λ authorises. K authorises [])
Argument kind.Pairs K = Pairs (λ pairs. K pairs [])
Argument kind.Words K = Words (λ words. K words [])

-- arguments of these kinds one after another, and the command that they make
abbrev pub Row : (kinds : List Kind) → Maker kinds → List ℕ → Command → Type 0
Row [] made rest c = c ≡ made
Row (k ∷ ks) maker rest c = Argument k (λ x. Row ks (maker x)) rest c

-- the command that these values make
abbrev pub applied : (kinds : List Kind) → Maker kinds → Values kinds → Command
applied [] made xs = made
applied (k ∷ ks) maker xs = applied ks (maker xs.0) xs.1

-- rest, which is what stands behind the command word, and the command that it makes
abbrev pub Form : Option Entry → List ℕ → Command → Type 0
Form None rest c = IsFault fault.UnknownCommand c
Form (Some e) rest c = Row e.kinds e.maker rest c
