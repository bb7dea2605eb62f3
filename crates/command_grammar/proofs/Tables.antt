-- Each command's form names one command, the one that reading its arguments gives.
use Rattle.std.proofs.Common.{◌≡◌, ℕ, List, [], ◌∷◌, refl, Bool, true, false, cond}
use Rattle.std.specs.Prelude.{Option, Some}
use Rattle.std.specs.List.{list_all}
use Rattle.std.proofs.lemmas.Bool.{and_parts}
use Rattle.line_words.specs.Words.{EndsWord}
use Rattle.command_grammar.specs.Forms.{is_same, entry_named, command_named, Row, Form}
use Rattle.command_grammar.specs.Readers.{row_at, known_at}
use Rattle.command_grammar.specs.Table as kind
use Rattle.command_grammar.specs.Table.{Kind, Maker, Entry, entries, battle_entries, room_entries, host_entries}
use Rattle.command_grammar.proofs.Settles.{Settles, made, fault_made, Word-settles, Optional-settles, Name-settles, Natural-settles, Wide-settles, Flag-settles}
use Rattle.command_grammar.proofs.Sequences.{Text-settles, OptionalText-settles, LoginFlags-settles, Sentence-settles, Pairs-settles, Words-settles}

-- behind a sentence there are sentences alone, and perhaps flags, since no word begins with a tab
abbrev are_sentences : List Kind → Bool
are_sentences [] = true
are_sentences (kind.Sentence ∷ ks) = are_sentences ks
are_sentences (kind.LoginFlags ∷ []) = true
are_sentences (_ ∷ ks) = false

abbrev is_row : List Kind → Bool
is_row [] = true
is_row (kind.Sentence ∷ ks) = are_sentences ks
is_row (_ ∷ ks) = is_row ks

abbrev has_row : Entry → Bool
has_row e = is_row e.kinds

rows : list_all has_row entries ≡ true
unfolding entries battle_entries room_entries host_entries
rows = refl

sentences_settle : (ks : List Kind) (maker : Maker ks) (rest : List ℕ) → are_sentences ks ≡ true → Settles (Row ks maker rest) (row_at ks maker rest)
sentences_settle [] maker rest h = made
sentences_settle (kind.Sentence ∷ ks) maker rest h = Sentence-settles _ (λ s r. sentences_settle ks (maker s) r h) rest
sentences_settle (kind.LoginFlags ∷ []) maker rest h = LoginFlags-settles _ (λ b. sentences_settle [] (maker b) [] refl) rest
sentences_settle (_ ∷ ks) maker rest h = absurd (let n : ⊥ = cc in n)

row_settles : (ks : List Kind) (maker : Maker ks) (rest : List ℕ) → EndsWord rest → is_row ks ≡ true → Settles (Row ks maker rest) (row_at ks maker rest)
row_settles [] maker rest e h = made
row_settles (kind.Word ∷ ks) maker rest e h = Word-settles _ (λ x r e. row_settles ks (maker x) r e h) rest e
row_settles (kind.OptionalWord ∷ ks) maker rest e h = Optional-settles _ (λ x r e. row_settles ks (maker x) r e h) rest e
row_settles (kind.Name ∷ ks) maker rest e h = Name-settles _ (λ x r e. row_settles ks (maker x) r e h) rest e
row_settles (kind.Natural high ∷ ks) maker rest e h = Natural-settles _ (λ x r e. row_settles ks (maker x) r e h) rest e
row_settles (kind.Wide ∷ ks) maker rest e h = Wide-settles _ (λ x r e. row_settles ks (maker x) r e h) rest e
row_settles (kind.Flag ∷ ks) maker rest e h = Flag-settles _ (λ x r e. row_settles ks (maker x) r e h) rest e
row_settles (kind.Sentence ∷ ks) maker rest e h = Sentence-settles _ (λ x r. sentences_settle ks (maker x) r h) rest
row_settles (kind.Text ∷ ks) maker rest e h = Text-settles _ (λ x. row_settles ks (maker x) [] tt h) rest
row_settles (kind.OptionalText ∷ ks) maker rest e h = OptionalText-settles _ (λ x. row_settles ks (maker x) [] tt h) rest
row_settles (kind.LoginFlags ∷ ks) maker rest e h = LoginFlags-settles _ (λ x. row_settles ks (maker x) [] tt h) rest
row_settles (kind.Pairs ∷ ks) maker rest e h = Pairs-settles _ (λ x. row_settles ks (maker x) [] tt h) rest
row_settles (kind.Words ∷ ks) maker rest e h = Words-settles _ (λ x. row_settles ks (maker x) [] tt h) rest e

entries_settle : (es : List Entry) → list_all has_row es ≡ true → (name rest : List ℕ) → EndsWord rest → Settles (Form (entry_named es name) rest) (known_at (entry_named es name) rest)
entries_settle [] h name rest e = fault_made
entries_settle (x ∷ es) h name rest e =
    let both = and_parts (has_row x) (list_all has_row es) h in
    by (is_same name x.word) (entry_named es name) (row_settles x.kinds x.maker rest e both.0) (entries_settle es both.1 name rest e)
  where
    by : (t : Bool) (o : Option Entry) → Settles (Form (Some x) rest) (known_at (Some x) rest) → Settles (Form o rest) (known_at o rest) → Settles (Form (cond t (Some x) o) rest) (known_at (cond t (Some x) o) rest)
    by true o one others = one
    by false o one others = others

pub form_settles : (name rest : List ℕ) → EndsWord rest → Settles (Form (command_named name) rest) (known_at (command_named name) rest)
form_settles name rest e = entries_settle entries rows name rest e
