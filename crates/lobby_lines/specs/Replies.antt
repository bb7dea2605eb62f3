-- The fields of a reply, and the head of its line.
use Rattle.std.specs.Prelude.{◌≡◌, ◌++◌, ℕ, zero, suc, pos, List, [], ◌∷◌, flat_map, Option, Some}
use Rattle.std.specs.Prelude.{None, slice_get}
use Rattle.line_words.specs.declared.lists.Pair.{Pair}
use Rattle.reply_kinds.specs.declared.Reply.{Reply}
use Rattle.reply_kinds.specs.declared.command_word.CommandWord.{CommandWord}
use Rattle.reply_kinds.specs.Kinds as kind
use Rattle.reply_kinds.specs.Kinds.{Kind, Value, Values}
use Rattle.reply_kinds.specs.Replies.{battle_number, status_word, port_number, command_of, kinds_of, values_of, Line}
use Rattle.reply_grammar.specs.Lines.{commands}
use Rattle.lobby_lines.specs.declared.fields.HeadRow.{HeadRow}
use Rattle.lobby_lines.specs.declared.reply_table.ReplyKind.{ReplyKind}
use Rattle.lobby_lines.specs.declared.reply_table.ReplyKind.TheVariants as ours
use Rattle.lobby_lines.specs.Fields.{Field, Absent, Text, Number}
use Rattle.lobby_lines.specs.Rows.{bit}

-- what a kind is called in the protocol's table
abbrev pub kind_of : ReplyKind → Kind
kind_of ours.Word = kind.Word
kind_of ours.Name = kind.Name
kind_of ours.Battle = battle_number
kind_of ours.Status = status_word
kind_of ours.Port = port_number
kind_of (ours.Small high) = kind.Number 0 high
kind_of ours.Wide = kind.Wide
kind_of ours.Flag = kind.Flag
kind_of ours.OptionalWord = kind.OptionalWord
kind_of ours.Words = kind.Words
kind_of ours.Names = kind.Names
kind_of ours.Sentence = kind.Sentence
kind_of ours.NextSentence = kind.NextSentence
kind_of ours.Text = kind.Text
kind_of ours.Pairs = kind.Pairs

abbrev pub one_text : List ℕ → List Field
one_text bytes = Text bytes ∷ []

-- key and value
abbrev pub two_texts : Pair → List Field
two_texts p = Text p.key ∷ Text p.value ∷ []

abbrev pub optional_field : Option (List ℕ) → List Field
optional_field None = Absent ∷ []
optional_field (Some w) = Text w ∷ []

-- the fields of an argument
abbrev pub shown : (k : Kind) → Value k → List Field
shown kind.Word w = one_text w
shown kind.Name w = one_text w
shown (kind.Number low high) n = Number (pos n) ∷ []
shown kind.Wide z = Number z ∷ []
shown kind.Flag b = Number (pos (bit b)) ∷ []
shown kind.OptionalWord o = optional_field o
shown kind.Words ws = flat_map one_text ws
shown kind.Names ws = flat_map one_text ws
shown kind.Sentence s = one_text s
shown kind.NextSentence s = one_text s
shown kind.Text t = one_text t
shown kind.Pairs ps = flat_map two_texts ps

-- those of all arguments
abbrev pub all_shown : (ks : List Kind) → Values ks → List Field
all_shown [] xs = []
all_shown (k ∷ ks) xs = shown k xs.0 ++ all_shown ks xs.1

abbrev pub fields_of : Reply → List Field
fields_of r = all_shown (kinds_of (command_of r)) (values_of r)

-- the command word of this number: they are numbered from 1 on
abbrev pub numbered : ℕ → Option CommandWord
numbered zero = None
numbered (suc k) = slice_get commands k

-- whether there is an id, and which
abbrev pub IdIs : HeadRow → Option ℕ → Type 0
IdIs head None = (head.numbered ≡ 0) × (head.id ≡ 0)
IdIs head (Some id) = (head.numbered ≡ 1) × (head.id ≡ id)

-- the head of the line of a reply
pub record HeadOf (head : HeadRow) (l : Line) : Type 0 where
  pub kind : numbered head.kind ≡ Some (command_of l.1)
  pub id : IdIs head l.0
