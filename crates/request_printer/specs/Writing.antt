-- The line of a request, by the table of commands and the kinds of their arguments.
use Rattle.std.specs.Prelude.{◌≡◌, ℕ, if◌then◌else◌, ◌⊎◌, List, [], ◌∷◌, ◌++◌, codes, decimal, Option, Some}
use Rattle.std.specs.Fmt.{signed_decimal}
use Rattle.command_grammar.specs.declared.command.Command.{Command}
use Rattle.command_grammar.specs.declared.command.Command.TheVariants as command
use Rattle.command_grammar.specs.declared.command.Request.{Request}
use Rattle.command_grammar.specs.Forms.{applied, command_named}
use Rattle.command_grammar.specs.Table.{Kind, Word, OptionalWord, Name, Natural, Wide, Flag, Sentence, Text}
use Rattle.command_grammar.specs.Table.{OptionalText, LoginFlags, Pairs, Words, Value, Values, Entry, arguments_of}
use Rattle.reply_kinds.specs.Kinds.{words_text, pairs_text, optional_text}
use Rattle.reply_kinds.specs.Replies.{id_text}

-- an argument with what stands before it: a sentence stands behind this separator, a login's flags behind two tabs, all
-- else behind spaces
abbrev pub written : ℕ → (k : Kind) → Value k → List ℕ
written separator Word w = 32 ∷ w
written separator OptionalWord o = optional_text o
written separator Name w = 32 ∷ w
written separator (Natural high) n = 32 ∷ decimal n
written separator Wide z = 32 ∷ signed_decimal z
written separator Flag b = 32 ∷ (if b then 49 else 48) ∷ []
written separator Sentence s = separator ∷ s
written separator Text t = 32 ∷ t
written separator OptionalText o = optional_text o
written separator LoginFlags b = if b then 9 ∷ 9 ∷ codes "b" else []
written separator Pairs ps = pairs_text 32 ps
written separator Words ws = words_text ws

-- behind a sentence a further one stands behind a tab
abbrev pub separator_behind : Kind → ℕ → ℕ
separator_behind Sentence separator = 9
separator_behind k separator = separator

-- the arguments one behind another
abbrev pub all_written : ℕ → (ks : List Kind) → Values ks → List ℕ
all_written separator [] xs = []
all_written separator (k ∷ ks) xs = written separator k xs.0 ++ all_written (separator_behind k separator) ks xs.1

-- an entry of the table that makes the command, of some values
pub record HasEntry (c : Command) (word : List ℕ) : Type 0 where
  pub entry : Entry
  pub named : command_named word ≡ Some entry
  pub word_is : word ≡ entry.word
  pub values : Values entry.kinds
  pub made : c ≡ applied entry.kinds entry.maker values

-- the word of the command; what is blank has none
abbrev pub HasWord : Command → List ℕ → Type 0
HasWord c word = ((c ≡ command.Blank) × (word ≡ [])) ⊎ HasEntry c word

-- the request of a command
abbrev pub asked : Option ℕ → Command → Request
asked id c = record { id = id; command = c }

-- its arguments
abbrev pub argument_text : Command → List ℕ
argument_text c = all_written 32 (arguments_of c).kinds (arguments_of c).values

-- `#id ` where there is an id, this word, and the arguments
abbrev pub line_under : Request → List ℕ → List ℕ
line_under r word = id_text r.id ++ (word ++ argument_text r.command)

-- the line of a request without its LF
pub record Writes (r : Request) (line : List ℕ) : Type 0 where
  pub word : List ℕ
  pub has_word : HasWord r.command word
  pub whole : line ≡ line_under r word
