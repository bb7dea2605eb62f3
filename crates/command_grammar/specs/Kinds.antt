-- The kinds that the arguments of a command keep.
use Rattle.std.specs.Prelude.{ℕ, Bool, true, ◌&&◌, nat_le, List, [], ◌∷◌, length, Option, Some, None}
use Rattle.std.specs.List.{list_all}
use Rattle.line_words.specs.Bytes.{is_name, is_sentence, is_text, is_word}
use Rattle.line_words.specs.Kinds.{is_pair, is_some_word, is_wide}
use Rattle.command_grammar.specs.declared.command.Command.{Command}
use Rattle.command_grammar.specs.Table.{Kind, Word, OptionalWord, Name, Natural, Wide, Flag, Sentence, Text}
use Rattle.command_grammar.specs.Table.{OptionalText, LoginFlags, Pairs, Words, Value, Values, arguments_of}

-- at most this
abbrev pub is_up_to : ℕ → ℕ → Bool
is_up_to high n = nat_le n high

-- a text, if there is one
abbrev pub is_some_text : Option (List ℕ) → Bool
is_some_text None = true
is_some_text (Some text) = is_text text

-- one or more of a kind
abbrev pub are_some : {A : Type 0} → (A → Bool) → List A → Bool
are_some test xs = nat_le 1 (length xs) && list_all test xs

-- the rule of each kind
abbrev pub fits : (k : Kind) → Value k → Bool
fits Word w = is_word w
fits OptionalWord o = is_some_word o
fits Name w = is_name w
fits (Natural high) n = is_up_to high n
fits Wide z = is_wide z
fits Flag b = true
fits Sentence s = is_sentence s
fits Text t = is_text t
fits OptionalText o = is_some_text o
fits LoginFlags b = true
fits Pairs ps = are_some is_pair ps
fits Words ws = are_some is_word ws

-- those before do, and each of these keeps the rule of its kind
abbrev pub all_fit : Bool → (ks : List Kind) → Values ks → Bool
all_fit before [] xs = before
all_fit before (k ∷ ks) xs = all_fit (before && fits k xs.0) ks xs.1

-- each argument is of its kind
abbrev pub keeps_kinds : Command → Bool
keeps_kinds c = all_fit true (arguments_of c).kinds (arguments_of c).values
