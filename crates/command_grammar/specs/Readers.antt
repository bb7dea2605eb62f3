-- What reading the arguments of a command gives, as a function: the readers are proved by it, and it is proved to give
-- what their form says.
use Rattle.std.specs.Prelude.{◌≡◌, ℕ, ℤ, pos, negsuc, neg_ℤ, int_lt, Bool, false, not, ◌&&◌, ◌||◌, ◌==◌}
use Rattle.std.specs.Prelude.{if◌then◌else◌, List, [], ◌∷◌, ◌++◌, length, Option, Some, None, Result, Ok, Err, is_ok}
use Rattle.std.specs.Prelude.{IsTrue}
use Rattle.line_words.specs.Bytes.{has_byte, is_name, is_key}
use Rattle.line_words.specs.Parts.{before, from, between}
use Rattle.line_words.specs.Numbers.{is_digits, value_of}
use Rattle.line_words.specs.Sentences.{between_tabs}
use Rattle.line_words.specs.declared.lists.Pair.{Pair}
use Rattle.command_grammar.specs.declared.command.ReadFault.{ReadFault}
use Rattle.command_grammar.specs.declared.command.ReadFault.TheVariants as fault
use Rattle.command_grammar.specs.declared.command.Command.{Command}
use Rattle.command_grammar.specs.declared.command.Command.TheVariants as command
use Rattle.command_grammar.specs.declared.fault.ReadError.{ReadError}
use Rattle.command_grammar.specs.declared.fault.ReadError.TheVariants as errors
use Rattle.command_grammar.specs.Owning.{owns_bytes}
use Rattle.command_grammar.specs.Arguments.{flagged}
use Rattle.command_grammar.specs.Table as kind
use Rattle.command_grammar.specs.Table.{Kind, Value, Maker, Entry}

-- one reading after another: the first fault ends it
infixl 10 ◌>>=◌
abbrev pub ◌>>=◌ : {A B : Type 0} → Result A ReadFault → (A → Result B ReadFault) → Result B ReadFault
(Ok x) >>= f = f x
(Err e) >>= f = Err e

-- a fault is a command that was not read
abbrev pub command_of : Result Command ReadFault → Command
command_of (Ok c) = c
command_of (Err f) = command.Unread f

-- memory may be refused where the command owns bytes, and nowhere else
abbrev pub needs_memory : Result Command ReadFault → Bool
needs_memory (Ok c) = owns_bytes c
needs_memory (Err f) = false

-- what a reader returns is what reading gives
abbrev pub Gives : Result Command ReadError → Result Command ReadFault → Type 0
Gives (Ok c) read = read ≡ Ok c
Gives (Err (errors.Fault f)) read = read ≡ Err f
Gives (Err (errors.Memory e)) read = IsTrue (needs_memory read)

-- the same of a reader of slices, seen as lists
abbrev pub seen : {X Y : Type 0} → (X → Y) → Result X ReadFault → Result Y ReadFault
seen view (Ok x) = Ok (view x)
seen view (Err f) = Err f

-- without the spaces at the front
abbrev pub without_spaces : List ℕ → List ℕ
without_spaces [] = []
without_spaces (b ∷ bs) = if b == 32 then without_spaces bs else b ∷ bs

-- a word that is there and has no tab
abbrev pub checked_word : List ℕ → List ℕ → Result (List ℕ × List ℕ) ReadFault
checked_word [] behind = Err fault.MissingArgument
checked_word (b ∷ bs) behind = if has_byte 9 (b ∷ bs) then Err fault.BadByte else Ok (b ∷ bs, behind)

-- the word at the front of a text
abbrev pub word_in : List ℕ → Result (List ℕ × List ℕ) ReadFault
word_in text = checked_word (before 32 text) (from 32 text)

-- the next word, and what stands behind it
unfoldable pub word_at : List ℕ → Result (List ℕ × List ℕ) ReadFault
word_at rest = word_in (without_spaces rest)

-- no word is no fault
abbrev pub if_there : Result (List ℕ × List ℕ) ReadFault → Result (Option (List ℕ) × List ℕ) ReadFault
if_there (Ok x) = Ok (Some x.0, x.1)
if_there (Err fault.MissingArgument) = Ok (None, [])
if_there (Err f) = Err f

-- the next word, if there is one
unfoldable pub optional_at : List ℕ → Result (Option (List ℕ) × List ℕ) ReadFault
optional_at rest = if_there (word_at rest)

-- a word that is a name
abbrev pub if_name : List ℕ × List ℕ → Result (List ℕ × List ℕ) ReadFault
if_name x = if is_name x.0 then Ok x else Err fault.BadName

-- the next word, which is a name
unfoldable pub name_at : List ℕ → Result (List ℕ × List ℕ) ReadFault
name_at rest = word_at rest >>= if_name

-- the number that a word is written as
abbrev pub numeral : List ℕ → Option ℤ
numeral [] = None
numeral (b ∷ bs) = if is_digits (b ∷ bs) then Some (pos (value_of (b ∷ bs)))
    else (if b == 45 && is_digits bs then Some (neg_ℤ (pos (value_of bs))) else None)

-- low and high are in the range
abbrev pub is_between : ℤ → ℤ → ℤ → Bool
is_between low high z = not (int_lt z low) && not (int_lt high z)

-- a number of the range
abbrev pub if_between : ℤ → ℤ → Option ℤ → Result ℤ ReadFault
if_between low high None = Err fault.BadNumber
if_between low high (Some z) = if is_between low high z then Ok z else Err fault.BadNumber

-- the number of the range that a word is
unfoldable pub number_in : ℤ → ℤ → List ℕ → Result ℤ ReadFault
number_in low high word = if_between low high (numeral word)

-- the next word, which is a number from low to high
unfoldable pub number_at : ℤ → ℤ → List ℕ → Result (ℤ × List ℕ) ReadFault
number_at low high rest = do
  word ← word_at rest
  z ← number_in low high word.0
  Ok (z, word.1)

-- a number that is not negative
abbrev pub natural_of : ℤ → ℕ
natural_of (pos n) = n
natural_of (negsuc n) = 0

-- the next word, which is a number from 0 to high
unfoldable pub natural_at : ℕ → List ℕ → Result (ℕ × List ℕ) ReadFault
natural_at high rest = do
  number ← number_at (pos 0) (pos high) rest
  Ok (natural_of number.0, number.1)

-- the next word, which is a number from -2147483648 to 4294967295
unfoldable pub wide_at : List ℕ → Result (ℤ × List ℕ) ReadFault
wide_at = number_at (negsuc 2147483647) (pos 4294967295)

-- the next word, which is 0 or 1
unfoldable pub flag_at : List ℕ → Result (Bool × List ℕ) ReadFault
flag_at rest = do
  number ← natural_at 1 rest
  Ok (number.0 == 1, number.1)

-- all behind one space
unfoldable pub text_at : List ℕ → Result (List ℕ) ReadFault
text_at [] = Err fault.MissingArgument
text_at (space ∷ text) = Ok text

-- all behind one space, if that is there
unfoldable pub optional_text_at : List ℕ → Option (List ℕ)
optional_text_at [] = None
optional_text_at (space ∷ text) = Some text

-- what a login's user id and flags say
unfoldable pub login_flags_at : List ℕ → Bool
login_flags_at [] = false
login_flags_at (tab ∷ text) = flagged (from 9 text)

-- all behind one byte, up to the next tab, and what stands from there on
unfoldable pub sentence_at : List ℕ → Result (List ℕ × List ℕ) ReadFault
sentence_at rest = do
  text ← text_at rest
  Ok (before 9 text, from 9 text)

-- the pair of a key and a value
abbrev pub pair : List ℕ → List ℕ → Pair
pair key value = record { key = key; value = value }

-- the pair whose key stands before the first `=`
abbrev pub pair_of : List ℕ → List ℕ → Result Pair ReadFault
pair_of key [] = Err fault.BadPair
pair_of key (equals ∷ value) = if is_key key then Ok (pair key value) else Err fault.BadPair

-- the pair that a sentence is
unfoldable pub pair_in : List ℕ → Result Pair ReadFault
pair_in sentence = pair_of (before 61 sentence) (from 61 sentence)

-- a sentence that is skipped or kept
abbrev pub is_pair_or_empty : List ℕ → Bool
is_pair_or_empty sentence = length sentence == 0 || is_ok (pair_in sentence)

-- the pairs among the sentences
abbrev pub pairs_in : List (List ℕ) → Result (List Pair) ReadFault
pairs_in [] = Ok []
pairs_in ([] ∷ more) = pairs_in more
pairs_in ((b ∷ bs) ∷ more) = do
  p ← pair_in (b ∷ bs)
  ps ← pairs_in more
  Ok (p ∷ ps)

-- these pairs, and behind them those that were read
abbrev pub behind_pairs : List Pair → Result (List Pair) ReadFault → Result (List Pair) ReadFault
behind_pairs front read = read >>= λ pairs. Ok (front ++ pairs)

-- a list that is not empty
abbrev pub at_least_one : {A : Type 0} → List A → Result (List A) ReadFault
at_least_one [] = Err fault.MissingArgument
at_least_one (x ∷ xs) = Ok (x ∷ xs)

-- the pairs of a text
unfoldable pub pairs_of : List ℕ → Result (List Pair) ReadFault
pairs_of text = do
  pairs ← pairs_in (between_tabs text)
  at_least_one pairs

-- the pairs of all behind one space
unfoldable pub pairs_at : List ℕ → Result (List Pair) ReadFault
pairs_at rest = do
  text ← text_at rest
  pairs_of text

-- the parts that are not empty
abbrev pub without_empty : List (List ℕ) → List (List ℕ)
without_empty [] = []
without_empty ([] ∷ more) = without_empty more
without_empty ((b ∷ bs) ∷ more) = (b ∷ bs) ∷ without_empty more

-- the words of a list, which spaces part
unfoldable pub words_in : List ℕ → List (List ℕ)
words_in rest = without_empty (between 32 rest)

-- the words of the rest
unfoldable pub words_at : List ℕ → Result (List (List ℕ)) ReadFault
words_at rest = if has_byte 9 rest then Err fault.BadByte else at_least_one (words_in rest)

-- the next argument, of this kind, and what comes of it and its own rest
abbrev pub argument_at : (k : Kind) → (Value k → List ℕ → Result Command ReadFault) → List ℕ → Result Command ReadFault
argument_at kind.Word K rest = word_at rest >>= λ x. K x.0 x.1
argument_at kind.OptionalWord K rest = optional_at rest >>= λ x. K x.0 x.1
argument_at kind.Name K rest = name_at rest >>= λ x. K x.0 x.1
argument_at (kind.Natural high) K rest = natural_at high rest >>= λ x. K x.0 x.1
argument_at kind.Wide K rest = wide_at rest >>= λ x. K x.0 x.1
argument_at kind.Flag K rest = flag_at rest >>= λ x. K x.0 x.1
argument_at kind.Sentence K rest = sentence_at rest >>= λ x. K x.0 x.1
argument_at kind.Text K rest = text_at rest >>= λ text. K text []
argument_at kind.OptionalText K rest = K (optional_text_at rest) []
argument_at kind.LoginFlags K rest = K (login_flags_at rest) []
argument_at kind.Pairs K rest = pairs_at rest >>= λ pairs. K pairs []
argument_at kind.Words K rest = words_at rest >>= λ words. K words []

-- arguments of these kinds one after another, and the command that they make
abbrev pub row_at : (kinds : List Kind) → Maker kinds → List ℕ → Result Command ReadFault
row_at [] made rest = Ok made
row_at (k ∷ ks) maker rest = argument_at k (λ x. row_at ks (maker x)) rest

-- the command that is made owns bytes, whatever its arguments are
abbrev pub AlwaysOwns : (kinds : List Kind) → Maker kinds → Type 0
AlwaysOwns [] made = IsTrue (owns_bytes made)
AlwaysOwns (k ∷ ks) maker = (x : Value k) → AlwaysOwns ks (maker x)

-- what a reader of a row returns, whatever command its arguments are for: they make that command, or memory is refused
-- to one that owns bytes
abbrev pub GivesRow : {X : Type 0} (kinds : List Kind) → (Maker kinds → X → Command) → Result X ReadError → List ℕ
    → Type 0
GivesRow kinds make (Ok x) rest = (maker : Maker kinds) → row_at kinds maker rest ≡ Ok (make maker x)
GivesRow kinds make (Err (errors.Fault f)) rest = (maker : Maker kinds) → row_at kinds maker rest ≡ Err f
GivesRow kinds make (Err (errors.Memory e)) rest = (maker : Maker kinds) → AlwaysOwns kinds maker
    → IsTrue (needs_memory (row_at kinds maker rest))

-- what an entry of the table makes of the rest of a line
abbrev pub known_at : Option Entry → List ℕ → Result Command ReadFault
known_at None rest = Err fault.UnknownCommand
known_at (Some e) rest = row_at e.kinds e.maker rest
