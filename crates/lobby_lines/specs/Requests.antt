-- The request that a head and rows of fields are.
use Rattle.std.specs.Prelude.{◌+◌, ℕ, zero, suc, ℤ, pos, negsuc, Bool, false, not, ◌&&◌, ◌||◌, ◌==◌, nat_le}
use Rattle.std.specs.Prelude.{if◌then◌else◌}
use Rattle.std.specs.Prelude.{List, [], ◌∷◌, length, take, drop, slice_get, Option, Some, None, Result, Ok, Err}
use Rattle.line_words.specs.Bytes.{is_word, is_name, is_key, is_sentence, is_text}
use Rattle.line_words.specs.Kinds.{is_wide}
use Rattle.line_words.specs.declared.lists.Pair.{Pair}
use Rattle.command_grammar.specs.declared.command.Request.{Request}
use Rattle.command_grammar.specs.Forms.{applied}
use Rattle.command_grammar.specs.Table as kind
use Rattle.command_grammar.specs.Table.{Kind, Value, Values, Entry, entries}
use Rattle.command_grammar.specs.Reads.{id_limit}
use Rattle.request_printer.specs.Faults.{is_absent}
use Rattle.lobby_lines.specs.declared.fields.FieldRow.{FieldRow}
use Rattle.lobby_lines.specs.declared.fields.HeadRow.{HeadRow}
use Rattle.lobby_lines.specs.declared.error.RequestError.{RequestError}
use Rattle.lobby_lines.specs.declared.error.RequestError.TheVariants as error
use Rattle.lobby_lines.specs.declared.request_table.RequestKind.{RequestKind}
use Rattle.lobby_lines.specs.declared.request_table.RequestKind.TheVariants as ours

-- what a kind is called in the table of commands
abbrev pub kind_of : RequestKind → Kind
kind_of ours.Word = kind.Word
kind_of ours.OptionalWord = kind.OptionalWord
kind_of ours.Name = kind.Name
kind_of (ours.Natural high) = kind.Natural high
kind_of ours.Wide = kind.Wide
kind_of ours.Flag = kind.Flag
kind_of ours.Sentence = kind.Sentence
kind_of ours.Text = kind.Text
kind_of ours.OptionalText = kind.OptionalText
kind_of ours.LoginFlags = kind.LoginFlags
kind_of ours.Pairs = kind.Pairs
kind_of ours.Words = kind.Words

-- the entry of this number: they are numbered from 1 on
abbrev pub entry_at : ℕ → Option Entry
entry_at zero = None
entry_at (suc k) = slice_get entries k

-- the first error ends it
infixl 10 ◌>>=◌
abbrev pub ◌>>=◌ : {A B : Type 0} → Result A RequestError → (A → Result B RequestError) → Result B RequestError
(Ok x) >>= f = f x
(Err e) >>= f = Err e

-- the same of what was lent
abbrev pub seen : {X Y : Type 0} → (X → Y) → Result X RequestError → Result Y RequestError
seen view (Ok x) = Ok (view x)
seen view (Err e) = Err e

-- the bytes that a field has in the text, if it holds a text whose place lies inside
abbrev pub bytes_in : List ℕ → FieldRow → Option (List ℕ)
bytes_in text f = if f.holds == 1 && nat_le (f.text.start + f.text.length) (length text)
    then Some (take f.text.length (drop f.text.start text)) else None

-- those of a field that pass the test
abbrev pub if_is : (List ℕ → Bool) → Option (List ℕ) → Result (List ℕ) RequestError
if_is test None = Err error.BadFields
if_is test (Some w) = if test w then Ok w else Err error.BadFields

abbrev pub text_of : (List ℕ → Bool) → List ℕ → FieldRow → Result (List ℕ) RequestError
text_of test text f = if_is test (bytes_in text f)

-- the same, or nothing where the field is absent
abbrev pub optional_of : (List ℕ → Bool) → List ℕ → FieldRow → Result (Option (List ℕ)) RequestError
optional_of test text f = if f.holds == 0 then Ok None else (text_of test text f >>= λ w. Ok (Some w))

-- a number from 0 to high
abbrev pub if_natural : ℕ → ℤ → Result ℕ RequestError
if_natural high (pos n) = if nat_le n high then Ok n else Err error.OutOfRange
if_natural high (negsuc n) = Err error.OutOfRange

abbrev pub number_of : FieldRow → Result ℤ RequestError
number_of f = if f.holds == 2 then Ok f.number else Err error.BadFields

abbrev pub natural_of : ℕ → FieldRow → Result ℕ RequestError
natural_of high f = number_of f >>= if_natural high

abbrev pub if_wide : ℤ → Result ℤ RequestError
if_wide z = if is_wide z then Ok z else Err error.OutOfRange

abbrev pub wide_of : FieldRow → Result ℤ RequestError
wide_of f = number_of f >>= if_wide

abbrev pub flag_of : FieldRow → Result Bool RequestError
flag_of f = natural_of 1 f >>= λ n. Ok (n == 1)

-- the first of the fields, and the others
abbrev pub first : List FieldRow → Result (FieldRow × List FieldRow) RequestError
first [] = Err error.BadFields
first (f ∷ fs) = Ok (f, fs)

-- a word of each field
abbrev pub all_words : List ℕ → List FieldRow → Result (List (List ℕ)) RequestError
all_words text [] = Ok []
all_words text (f ∷ fs) = text_of is_word text f >>= λ w. all_words text fs >>= λ ws. Ok (w ∷ ws)

-- a pair of each two fields
abbrev pub all_pairs : List ℕ → List FieldRow → Result (List Pair) RequestError
all_pairs text [] = Ok []
all_pairs text (f ∷ []) = Err error.BadFields
all_pairs text (f ∷ g ∷ fs) =
    text_of is_key text f >>= λ key. text_of is_sentence text g >>= λ value. all_pairs text fs >>= λ ps.
    Ok (record { key = key; value = value } ∷ ps)

-- a list that is not empty
abbrev pub listed : {A : Type 0} → List A → Result (List A × List FieldRow) RequestError
listed [] = Err error.NothingListed
listed (x ∷ xs) = Ok (x ∷ xs, [])

-- the value of one field, and the other fields
abbrev pub one : {A : Type 0} → (FieldRow → Result A RequestError) → List FieldRow
    → Result (A × List FieldRow) RequestError
one value fs = first fs >>= λ f. value f.0 >>= λ x. Ok (x, f.1)

-- an argument of this kind, and the fields behind its own
abbrev pub argument : List ℕ → (k : Kind) → List FieldRow → Result (Value k × List FieldRow) RequestError
argument text kind.Word fs = one (text_of is_word text) fs
argument text kind.OptionalWord fs = one (optional_of is_word text) fs
argument text kind.Name fs = one (text_of is_name text) fs
argument text (kind.Natural high) fs = one (natural_of high) fs
argument text kind.Wide fs = one wide_of fs
argument text kind.Flag fs = one flag_of fs
argument text kind.Sentence fs = one (text_of is_sentence text) fs
argument text kind.Text fs = one (text_of is_text text) fs
argument text kind.OptionalText fs = one (optional_of is_text text) fs
argument text kind.LoginFlags fs = one flag_of fs
argument text kind.Pairs fs = all_pairs text fs >>= listed
argument text kind.Words fs = all_words text fs >>= listed

-- nothing that is there stands behind what is missing
abbrev pub unless_skipped : {A : Type 0} → Bool → Bool → Result A RequestError → Result A RequestError
unless_skipped missing absent value = if missing && not absent then Err error.Skipped else value

-- arguments of these kinds, to the last field
abbrev pub arguments : List ℕ → Bool → (ks : List Kind) → List FieldRow → Result (Values ks) RequestError
arguments text missing [] [] = Ok tt
arguments text missing [] (f ∷ fs) = Err error.BadFields
arguments text missing (k ∷ ks) fs =
    argument text k fs >>= λ x. unless_skipped missing (is_absent k x.0) (arguments text (missing
    || is_absent k x.0) ks x.1 >>= λ xs. Ok (x.0, xs))

-- the message id
abbrev pub id_of : HeadRow → Result (Option ℕ) RequestError
id_of h = if h.numbered == 0 then Ok None else (if nat_le h.id id_limit then Ok (Some h.id) else Err error.OutOfRange)

-- the request of an entry
abbrev pub request_with : HeadRow → List FieldRow → List ℕ → Option Entry → Result Request RequestError
request_with h fs text None = Err error.NoCommand
request_with h fs text (Some e) =
    id_of h >>= λ id. arguments text false e.kinds fs >>= λ xs.
    Ok (record { id = id; command = applied e.kinds e.maker xs })

-- the request of this head and these fields, whose texts are places in the text
abbrev pub request_of : HeadRow → List FieldRow → List ℕ → Result Request RequestError
request_of h fs text = request_with h fs text (entry_at h.kind)
