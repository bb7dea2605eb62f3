-- The kinds of argument. Each says how the rest of a line, from the end of the command word or of the last argument on,
-- begins with an argument, and hands that argument and its own rest to the next kind. What the last hands its arguments
-- to says which command it is.
use Rattle.std.specs.Prelude.{◌≡◌, ℕ, ℤ, pos, negsuc, ◌≤ℤ◌, Bool, false, ◌==◌, ◌⊎◌, List, [], ◌∷◌, ◌++◌, codes}
use Rattle.std.specs.Prelude.{Option, Some, None, IsTrue, MatchBool}
use Rattle.std.specs.List.{list_any}
use Rattle.line_words.specs.Bytes.{has_byte, is_spaces, is_name, is_key}
use Rattle.line_words.specs.Numbers.{IsNumeral}
use Rattle.line_words.specs.Parts.{before, between, from}
use Rattle.line_words.specs.Sentences.{between_tabs}
use Rattle.line_words.specs.Table.{is_among}
use Rattle.line_words.specs.Words.{NextWord}
use Rattle.line_words.specs.declared.lists.Pair.{Pair}
use Rattle.command_grammar.specs.declared.command.ReadFault.{ReadFault}
use Rattle.command_grammar.specs.declared.command.ReadFault.TheVariants as fault
use Rattle.command_grammar.specs.declared.command.Command.{Command}
use Rattle.command_grammar.specs.declared.command.Command.TheVariants as command

-- the line is not read, for this reason
abbrev pub IsFault : ReadFault → Command → Type 0
IsFault f c = c ≡ command.Unread f

-- the next word, behind one or more spaces; only spaces are a missing argument, and a tab in the word is a bad byte
abbrev pub Word : (List ℕ → List ℕ → Command → Type 0) → List ℕ → Command → Type 0
Word K rest c = (IsTrue (is_spaces rest) × IsFault fault.MissingArgument c)
    ⊎ ((word : List ℕ) × (behind : List ℕ) × NextWord rest word behind
    × MatchBool (has_byte 9 word) (IsFault fault.BadByte c) (K word behind c))

-- the same, but only spaces are no word
abbrev pub OptionalWord : (Option (List ℕ) → List ℕ → Command → Type 0) → List ℕ → Command → Type 0
OptionalWord K rest c = (IsTrue (is_spaces rest) × K None [] c)
    ⊎ ((word : List ℕ) × (behind : List ℕ) × NextWord rest word behind
    × MatchBool (has_byte 9 word) (IsFault fault.BadByte c) (K (Some word) behind c))

-- a word that is a name
abbrev pub Name : (List ℕ → List ℕ → Command → Type 0) → List ℕ → Command → Type 0
Name K = Word (λ word behind c. MatchBool (is_name word) (K word behind c) (IsFault fault.BadName c))

-- a word that is a number from low to high
abbrev pub Number : ℤ → ℤ → (ℤ → List ℕ → Command → Type 0) → List ℕ → Command → Type 0
Number low high K = Word (λ word behind c.
    ((z : ℤ) × IsNumeral word z × (low ≤ℤ z) × (z ≤ℤ high) × K z behind c)
    ⊎ (((z : ℤ) → IsNumeral word z → low ≤ℤ z → z ≤ℤ high → ⊥) × IsFault fault.BadNumber c))

-- a number from 0 to high
abbrev pub Natural : ℕ → (ℕ → List ℕ → Command → Type 0) → List ℕ → Command → Type 0
Natural high K = Number (pos 0) (pos high) (λ z behind c. (n : ℕ) × (z ≡ pos n) × K n behind c)

-- a number from -2147483648 to 4294967295: colours, hashes, rank, cpu
abbrev pub Wide : (ℤ → List ℕ → Command → Type 0) → List ℕ → Command → Type 0
Wide = Number (negsuc 2147483647) (pos 4294967295)

-- 0 or 1
abbrev pub Flag : (Bool → List ℕ → Command → Type 0) → List ℕ → Command → Type 0
Flag K = Natural 1 (λ n. K (n == 1))

-- a text: all behind exactly one space; without that space it is missing
abbrev pub Text : (List ℕ → Command → Type 0) → List ℕ → Command → Type 0
Text K [] c = IsFault fault.MissingArgument c
Text K (space ∷ text) c = K text c

-- the same, but without that space there is no text
abbrev pub OptionalText : (Option (List ℕ) → Command → Type 0) → List ℕ → Command → Type 0
OptionalText K [] c = K None c
OptionalText K (space ∷ text) c = K (Some text) c

-- a sentence: all behind exactly one byte, the space or the tab before it, up to the next tab; without that byte it is
-- missing
abbrev pub Sentence : (List ℕ → List ℕ → Command → Type 0) → List ℕ → Command → Type 0
Sentence K [] c = IsFault fault.MissingArgument c
Sentence K (separator ∷ text) c = K (before 9 text) (from 9 text) c

-- `b` is one of the flags, which spaces part
abbrev pub has_flag : List ℕ → Bool
has_flag flags = is_among (codes "b") (between 32 flags)

-- the flags are the sentence behind the next tab
abbrev pub flagged : List ℕ → Bool
flagged [] = false
flagged (tab ∷ text) = has_flag (before 9 text)

-- a login's user id and flags, each behind a tab: the id says nothing to the lobby, and what is missing says no
abbrev pub LoginFlags : (Bool → Command → Type 0) → List ℕ → Command → Type 0
LoginFlags K [] c = K false c
LoginFlags K (tab ∷ text) c = K (flagged (from 9 text)) c

-- `key=value`: the key is a word without `=`, and the value all behind the `=`
pub record IsPair (sentence : List ℕ) (p : Pair) : Type 0 where
  pub whole : sentence ≡ p.key ++ (61 ∷ p.value)
  pub key : IsTrue (is_key p.key)

-- the sentences one after another: an empty one is skipped, and the first other that is no pair is a bad pair
abbrev pub PairsIn : (List Pair → Command → Type 0) → List (List ℕ) → Command → Type 0
PairsIn K [] c = K [] c
PairsIn K ([] ∷ more) c = PairsIn K more c
PairsIn K ((b ∷ bs) ∷ more) c =
    ((p : Pair) × IsPair (b ∷ bs) p × PairsIn (λ pairs. K (p ∷ pairs)) more c)
    ⊎ (((p : Pair) → IsPair (b ∷ bs) p → ⊥) × IsFault fault.BadPair c)

-- one or more; none is a missing argument
abbrev pub AtLeastOne : {A : Type 0} → (List A → Command → Type 0) → List A → Command → Type 0
AtLeastOne K [] c = IsFault fault.MissingArgument c
AtLeastOne K (x ∷ xs) c = K (x ∷ xs) c

-- the pairs among the sentences of a text, which tabs part, at least one
abbrev pub Pairs : (List Pair → Command → Type 0) → List ℕ → Command → Type 0
Pairs K = Text (λ text. PairsIn (AtLeastOne K) (between_tabs text))

-- rest is these words, each behind one or more spaces, and spaces
abbrev pub AreWords : List ℕ → List (List ℕ) → Type 0
AreWords rest [] = IsTrue (is_spaces rest)
AreWords rest (word ∷ words) = (behind : List ℕ) × NextWord rest word behind × AreWords behind words

-- all words of the rest, at least one; a tab in one of them is a bad byte
abbrev pub Words : (List (List ℕ) → Command → Type 0) → List ℕ → Command → Type 0
Words K rest c = (words : List (List ℕ)) × AreWords rest words
    × MatchBool (list_any (has_byte 9) words) (IsFault fault.BadByte c) (AtLeastOne K words c)
