-- How much an event tells, and what a command lists.
use Rattle.std.specs.Prelude.{◌≡◌, ℕ, ◌+◌, ◌*◌, Bool, false, if◌then◌else◌, is_some, List, [], ◌∷◌, length}
use Rattle.command_grammar.specs.declared.command.Command.{Command}
use Rattle.command_grammar.specs.Table.{Kind, Word, OptionalWord, Name, Natural, Wide, Flag, Sentence, Text}
use Rattle.command_grammar.specs.Table.{OptionalText, LoginFlags, Pairs, Words, Value, Values, arguments_of}
use Rattle.line_words.specs.Table.{at_number}
use Rattle.lobby_model.specs.declared.event.Event.{Event}
use Rattle.lobby_model.specs.declared.event.Event.TheVariants as event
use Rattle.lobby_model.specs.State.{State, hears}
use Rattle.lobby_maps.specs.Amounts.{bytes_told}
pub use Rattle.lobby_post.specs.Amounts.{counted_on}
use Rattle.lobby_maps.specs.Shown.{Shown}

-- how many words or pairs an argument lists
abbrev pub listed : (k : Kind) → Value k → ℕ
listed Word w = 0
listed OptionalWord o = 0
listed Name w = 0
listed (Natural high) n = 0
listed Wide z = 0
listed Flag b = 0
listed Sentence s = 0
listed Text t = 0
listed OptionalText o = 0
listed LoginFlags b = 0
listed Pairs ps = length ps
listed Words ws = length ws

-- and these arguments
abbrev pub all_listed : (ks : List Kind) → Values ks → ℕ
all_listed [] xs = 0
all_listed (k ∷ ks) xs = listed k xs.0 + all_listed ks xs.1

-- how many words or pairs a command lists
abbrev pub list_length : Command → ℕ
list_length c = all_listed (arguments_of c).kinds (arguments_of c).values

-- to look up a word or a pair that a command lists is as much work as to tell a client so many bytes
abbrev pub look_up : ℕ
look_up = 64

-- an event counts where it may tell: a request of a client that hears, a disconnect of one that is there
abbrev pub counts : State → Event → Bool
counts s (event.Say c request) = hears s c
counts s (event.Shut c) = is_some (at_number s.clients c)
counts s (event.Open ip home) = false
counts s (event.Drain c n) = false

-- the bytes that clients get of it, and more for each word or pair that its command lists
abbrev pub amount : State → Event → ℕ
amount s (event.Say c request) = look_up * list_length request.command + bytes_told s (event.Say c request)
amount s (event.Shut c) = bytes_told s (event.Shut c)
amount s (event.Open ip home) = 0
amount s (event.Drain c n) = 0

-- how much work an event is
abbrev pub work : State → Event → ℕ
work s e = if counts s e then amount s e else 0

-- a count of what was told, behind an event: it goes on by that work, and begins anew behind 2^64 - 1
abbrev pub told_on : ℕ → State → Event → ℕ
told_on told s e = if counts s e then counted_on told (amount s e) else told

abbrev pub CountsOn : Shown → Shown → Event → Type 0
CountsOn old new e = new.told ≡ told_on old.told old.plain e
