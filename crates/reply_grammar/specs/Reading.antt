-- The arguments of a reply, read from left to right.
use Rattle.std.specs.Prelude.{ℕ, List, [], ◌∷◌, Option, Some}
use Rattle.reply_kinds.specs.Kinds.{Kind, Word, Name, Number, Wide, Flag, OptionalWord, Words, Names, Sentence}
use Rattle.reply_kinds.specs.Kinds.{NextSentence, Text, Pairs, Value, Values}
use Rattle.reply_fields.specs.Fields.{◌>>=◌, word_at, name_at, number_at, wide_at, flag_at, optional_at, words_at}
use Rattle.reply_fields.specs.Fields.{names_at, sentence_at, text_at, pairs_at, if_end}

-- one argument, and the bytes behind it
abbrev pub field : (k : Kind) → List ℕ → Option (Value k × List ℕ)
field Word bytes = word_at bytes
field Name bytes = name_at bytes
field (Number low high) bytes = number_at low high bytes
field Wide bytes = wide_at bytes
field Flag bytes = flag_at bytes
field OptionalWord bytes = optional_at bytes
field Words bytes = words_at bytes
field Names bytes = names_at bytes
field Sentence bytes = sentence_at 32 bytes
field NextSentence bytes = sentence_at 9 bytes
field Text bytes = text_at bytes
field Pairs bytes = pairs_at bytes

-- one argument of each of these kinds, and the bytes behind them
abbrev pub fields : (ks : List Kind) → List ℕ → Option (Values ks × List ℕ)
fields [] bytes = Some (tt, bytes)
fields (k ∷ ks) bytes = field k bytes >>= λ x. fields ks x.1 >>= λ xs. Some ((x.0, xs.0), xs.1)

-- all arguments of these kinds, to the end
unfoldable pub shaped : (ks : List Kind) → List ℕ → Option (Values ks)
shaped ks bytes = fields ks bytes >>= λ x. if_end x.0 x.1
