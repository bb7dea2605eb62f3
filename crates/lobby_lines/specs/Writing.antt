-- A request written from its fields.
use Rattle.std.specs.Prelude.{◌≡◌, ◌++◌, ℕ, Bool, false, ◌||◌, List, [], ◌∷◌, Result, Ok, Err}
use Rattle.line_words.specs.Bytes.{is_key, is_sentence}
use Rattle.command_grammar.specs.Table.{Kind}
use Rattle.command_grammar.specs.declared.command.Request.{Request}
use Rattle.reply_kinds.specs.Kinds.{words_text, pairs_text}
use Rattle.request_printer.specs.Faults.{is_absent, Printed, Refuses}
use Rattle.request_printer.specs.Writing.{written, separator_behind}
use Rattle.request_printer.specs.declared.error.PrintError.TheVariants as print
use Rattle.lobby_lines.specs.declared.fields.FieldRow.{FieldRow}
use Rattle.lobby_lines.specs.declared.error.RequestError.{RequestError}
use Rattle.lobby_lines.specs.declared.error.RequestError.TheVariants as error
use Rattle.lobby_lines.specs.Requests.{◌>>=◌, all_words, all_pairs, argument, first, text_of, unless_skipped}

-- what is written of one argument, whether it is absent, and the fields behind its own
pub record Part : Type 0 where
  pub text : List ℕ
  pub absent : Bool
  pub behind : List FieldRow

abbrev pub part : ℕ → List ℕ → Kind → List FieldRow → Result Part RequestError
part separator text k fs = argument text k fs >>= λ x.
    Ok (record { text = written separator k x.0; absent = is_absent k x.0; behind = x.1 })

-- the same of arguments of these kinds, to the last field
abbrev pub parts : Bool → ℕ → List ℕ → List Kind → List FieldRow → Result (List ℕ) RequestError
parts missing separator text [] [] = Ok []
parts missing separator text [] (f ∷ fs) = Err error.BadFields
parts missing separator text (k ∷ ks) fs =
    part separator text k fs >>= λ p. unless_skipped missing p.absent (parts (missing
    || p.absent) (separator_behind k separator) text ks p.behind >>= λ t. Ok (p.text ++ t))

-- the words of these fields, each behind a space
abbrev pub words_put : List ℕ → List FieldRow → Result (List ℕ) RequestError
words_put text fs = all_words text fs >>= λ ws. Ok (words_text ws)

-- their pairs, the first behind this separator and the others behind tabs
abbrev pub pairs_put : ℕ → List ℕ → List FieldRow → Result (List ℕ) RequestError
pairs_put separator text fs = all_pairs text fs >>= λ ps. Ok (pairs_text separator ps)

-- the pair of the first two fields, behind this separator
abbrev pub pair_part : ℕ → List ℕ → List FieldRow → Result Part RequestError
pair_part separator text fs =
    first fs >>= λ f. first f.1 >>= λ g. text_of is_key text f.0 >>= λ key. text_of is_sentence text g.0 >>= λ value.
    Ok (record { text = separator ∷ (key ++ 61 ∷ value); absent = false; behind = g.1 })

-- an error says what keeps the fields from being read, or that memory ran out
abbrev pub Blames : {A : Type 0} → RequestError → Result A RequestError → Type 0
Blames error.Memory read = Unit {0}
Blames e read = read ≡ Err e

-- what was read is written behind what was there
abbrev pub Put : Result Part RequestError → List FieldRow → Bool → List ℕ → List ℕ → Type 0
Put (Ok p) behind absent old new = (behind ≡ p.behind) × (absent ≡ p.absent) × (new ≡ old ++ p.text)
Put (Err e) behind absent old new = ⊥

abbrev pub PutAll : Result (List ℕ) RequestError → List ℕ → List ℕ → Type 0
PutAll (Ok t) old new = new ≡ old ++ t
PutAll (Err e) old new = ⊥

-- the line of the request that was asked for
abbrev pub IsLine : Result Request RequestError → List ℕ → Type 0
IsLine (Ok r) line = Printed r [] line
IsLine (Err e) line = ⊥

-- why there is no such request, or that memory ran out before that was seen
abbrev pub IsWhy : RequestError → RequestError → Type 0
IsWhy error.Memory why = Unit {0}
IsWhy e why = e ≡ why

-- why a request that is there is not printed: as `print_request` tells
abbrev pub IsUnprinted : RequestError → Request → Type 0
IsUnprinted error.Memory r = Unit {0}
IsUnprinted error.TooLong r = Refuses print.TooLong r
IsUnprinted e r = ⊥

-- why there is no line of what was asked for
abbrev pub IsRefused : RequestError → Result Request RequestError → Type 0
IsRefused e (Ok r) = IsUnprinted e r
IsRefused e (Err why) = IsWhy e why
