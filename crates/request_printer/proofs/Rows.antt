-- The arguments of a row read back as they are written.
use Rattle.std.proofs.Common.{◌≡◌, ℕ, List, [], ◌∷◌, ◌++◌, append-nil, refl, sym, ap, subst, ◌∙◌, Bool, true, false}
use Rattle.std.proofs.Common.{inl}
use Rattle.std.specs.Prelude.{◌&&◌, not, nat_le, is_some, Option, Some, None}
use Rattle.std.proofs.lemmas.Bool.{and_parts, or_parts}
use Rattle.line_words.specs.Kinds.{is_some_word}
use Rattle.line_words.specs.declared.lists.Pair.{Pair}
use Rattle.line_words.specs.Parts.{Ends}
use Rattle.line_words.specs.Words.{EndsWord}
use Rattle.command_grammar.specs.declared.command.Command.{Command}
use Rattle.command_grammar.specs.Forms.{applied, Argument, Row}
use Rattle.command_grammar.specs.Table as kind
use Rattle.command_grammar.specs.Table.{Kind, Value, Values, Maker}
use Rattle.command_grammar.proofs.Taken.{EachFits}
use Rattle.reply_kinds.specs.Kinds.{optional_text, words_text, pairs_text}
use Rattle.request_printer.specs.Faults.{is_absent, all_absent, has_gap}
use Rattle.request_printer.specs.Writing.{written, separator_behind, all_written}
use Rattle.request_printer.proofs.Back.{word_back, optional_back, name_back, natural_back, wide_back, flag_back}
use Rattle.request_printer.proofs.Back.{sentence_back, pairs_back, words_back}

-- What a row may be

abbrev is_end : List Kind → Bool
is_end [] = true
is_end (k ∷ ks) = false

-- behind a sentence there are sentences alone, and perhaps flags
abbrev pub sentences_only : List Kind → Bool
sentences_only [] = true
sentences_only (kind.Sentence ∷ ks) = sentences_only ks
sentences_only (kind.LoginFlags ∷ ks) = is_end ks
sentences_only (k ∷ ks) = false

-- what takes the rest of the line stands last
abbrev pub is_written_row : List Kind → Bool
is_written_row [] = true
is_written_row (kind.Word ∷ ks) = is_written_row ks
is_written_row (kind.OptionalWord ∷ ks) = is_written_row ks
is_written_row (kind.Name ∷ ks) = is_written_row ks
is_written_row (kind.Natural high ∷ ks) = nat_le high 4294967295 && is_written_row ks
is_written_row (kind.Wide ∷ ks) = is_written_row ks
is_written_row (kind.Flag ∷ ks) = is_written_row ks
is_written_row (kind.Sentence ∷ ks) = sentences_only ks
is_written_row (kind.Text ∷ ks) = is_end ks
is_written_row (kind.OptionalText ∷ ks) = is_end ks
is_written_row (kind.LoginFlags ∷ ks) = false
is_written_row (kind.Pairs ∷ ks) = is_end ks
is_written_row (kind.Words ∷ ks) = is_end ks

-- What follows

-- what is absent is written as nothing
pub absent_text : (separator : ℕ) (ks : List Kind) (xs : Values ks) → all_absent ks xs ≡ true → all_written separator ks xs ≡ []
absent_text separator [] xs h = refl
absent_text separator (k ∷ ks) xs h =
    let p = and_parts (is_absent k xs.0) (all_absent ks xs.1) h in
    ap (λ (t : List ℕ). t ++ all_written (separator_behind k separator) ks xs.1) (one k xs.0 separator p.0)
    ∙ absent_text (separator_behind k separator) ks xs.1 p.1
  where
    one : (k : Kind) (x : Value k) (separator : ℕ) → is_absent k x ≡ true → written separator k x ≡ []
    one kind.OptionalWord None separator h = refl
    one kind.OptionalText None separator h = refl
    one kind.LoginFlags false separator h = refl
    one kind.OptionalWord (Some w) separator h = absurd (let n : ⊥ = cc in n)
    one kind.OptionalText (Some w) separator h = absurd (let n : ⊥ = cc in n)
    one kind.LoginFlags true separator h = absurd (let n : ⊥ = cc in n)
    one kind.Word x separator h = absurd (let n : ⊥ = cc in n)
    one kind.Name x separator h = absurd (let n : ⊥ = cc in n)
    one (kind.Natural high) x separator h = absurd (let n : ⊥ = cc in n)
    one kind.Wide x separator h = absurd (let n : ⊥ = cc in n)
    one kind.Flag x separator h = absurd (let n : ⊥ = cc in n)
    one kind.Sentence x separator h = absurd (let n : ⊥ = cc in n)
    one kind.Text x separator h = absurd (let n : ⊥ = cc in n)
    one kind.Pairs x separator h = absurd (let n : ⊥ = cc in n)
    one kind.Words x separator h = absurd (let n : ⊥ = cc in n)

optional_ends : (o : Option (List ℕ)) (more : List ℕ) → EndsWord more → EndsWord (optional_text o ++ more)
optional_ends None more h = h
optional_ends (Some w) more h = refl

-- behind a word stands a space, or nothing
pub word_ends : (ks : List Kind) (xs : Values ks) → is_written_row ks ≡ true → EndsWord (all_written 32 ks xs)
word_ends [] xs r = tt
word_ends (kind.Word ∷ ks) xs r = refl
word_ends (kind.OptionalWord ∷ ks) xs r = optional_ends xs.0 (all_written 32 ks xs.1) (word_ends ks xs.1 r)
word_ends (kind.Name ∷ ks) xs r = refl
word_ends (kind.Natural high ∷ ks) xs r = refl
word_ends (kind.Wide ∷ ks) xs r = refl
word_ends (kind.Flag ∷ ks) xs r = refl
word_ends (kind.Sentence ∷ ks) xs r = refl
word_ends (kind.Text ∷ ks) xs r = refl
word_ends (kind.OptionalText ∷ []) xs r = optional_ends xs.0 [] tt
word_ends (kind.OptionalText ∷ k ∷ ks) xs r = absurd (let n : ⊥ = cc in n)
word_ends (kind.LoginFlags ∷ ks) xs r = absurd (let n : ⊥ = cc in n)
word_ends (kind.Pairs ∷ []) xs r = pairs_end xs.0
  where
    pairs_end : (ps : List Pair) → EndsWord (pairs_text 32 ps ++ [])
    pairs_end [] = tt
    pairs_end (p ∷ ps) = refl
word_ends (kind.Pairs ∷ k ∷ ks) xs r = absurd (let n : ⊥ = cc in n)
word_ends (kind.Words ∷ []) xs r = words_end xs.0
  where
    words_end : (ws : List (List ℕ)) → EndsWord (words_text ws ++ [])
    words_end [] = tt
    words_end (w ∷ ws) = refl
word_ends (kind.Words ∷ k ∷ ks) xs r = absurd (let n : ⊥ = cc in n)

-- behind a sentence stands a tab, or nothing
sentence_ends : (ks : List Kind) (xs : Values ks) → sentences_only ks ≡ true → Ends 9 (all_written 9 ks xs)
sentence_ends [] xs r = tt
sentence_ends (kind.Sentence ∷ ks) xs r = refl
sentence_ends (kind.LoginFlags ∷ []) xs r = flags xs.0
  where
    flags : (b : Bool) → Ends 9 (written 9 kind.LoginFlags b ++ [])
    flags true = refl
    flags false = tt
sentence_ends (_ ∷ ks) xs r = absurd (let n : ⊥ = cc in n)

-- Rows

-- nothing behind it
nothing_back : (k : Kind) (maker : Value k → Command) (x : Value k) (text : List ℕ)
    → Argument k (λ y rest c. c ≡ maker y) text (maker x) → Argument k (λ y rest c. c ≡ maker y) (text ++ []) (maker x)
nothing_back k maker x text h =
    subst (λ (t : List ℕ). Argument k (λ y rest c. c ≡ maker y) t (maker x)) (sym (append-nil text)) h

optional_text_back : (maker : Option (List ℕ) → Command) (o : Option (List ℕ))
    → Argument kind.OptionalText (λ y rest c. c ≡ maker y) (optional_text o) (maker o)
optional_text_back maker None = refl
optional_text_back maker (Some t) = refl

flags_back : (maker : Bool → Command) (b : Bool)
    → Argument kind.LoginFlags (λ y rest c. c ≡ maker y) (written 9 kind.LoginFlags b) (maker b)
flags_back maker true = refl
flags_back maker false = refl

sentences_back : (ks : List Kind) (maker : Maker ks) (xs : Values ks) → sentences_only ks ≡ true → EachFits ks xs
    → Row ks maker (all_written 9 ks xs) (applied ks maker xs)
sentences_back [] maker xs r f = refl
sentences_back (kind.Sentence ∷ ks) maker xs r f =
    sentence_back (λ s. Row ks (maker s)) 9 xs.0 (all_written 9 ks xs.1) _ f.0 (sentence_ends ks xs.1 r)
    (sentences_back ks (maker xs.0) xs.1 r f.1)
sentences_back (kind.LoginFlags ∷ []) maker xs r f = nothing_back kind.LoginFlags maker xs.0 _ (flags_back maker xs.0)
sentences_back (_ ∷ ks) maker xs r f = absurd (let n : ⊥ = cc in n)

gone : (t : Bool) → (not t && true) ≡ false → t ≡ true
gone true h = refl
gone false h = absurd (let n : ⊥ = cc in n)

pub row_back : (ks : List Kind) (maker : Maker ks) (xs : Values ks) → is_written_row ks ≡ true → EachFits ks xs
    → has_gap ks xs ≡ false → Row ks maker (all_written 32 ks xs) (applied ks maker xs)
row_back [] maker xs r f g = refl
row_back (kind.Word ∷ ks) maker xs r f g =
    word_back (λ x. Row ks (maker x)) xs.0 (all_written 32 ks xs.1) _ f.0 (word_ends ks xs.1 r)
    (row_back ks (maker xs.0) xs.1 r f.1 g)
row_back (kind.OptionalWord ∷ ks) maker xs r f g =
    let p = or_parts (not (all_absent ks xs.1) && not (is_some xs.0)) (has_gap ks xs.1) g in
    by xs.0 (row_back ks (maker xs.0) xs.1 r f.1 p.1) f.0 p.0
  where
    by : (o : Option (List ℕ)) → Row ks (maker o) (all_written 32 ks xs.1) (applied ks (maker o) xs.1)
        → is_some_word o ≡ true → (not (all_absent ks xs.1) && not (is_some o)) ≡ false
        → Argument kind.OptionalWord (λ x. Row ks (maker x)) (optional_text o ++ all_written 32 ks xs.1)
        (applied ks (maker o) xs.1)
    by (Some w) h fit none =
        optional_back (λ x. Row ks (maker x)) w (all_written 32 ks xs.1) _ fit (word_ends ks xs.1 r) h
    by None h fit none =
        let e : all_written 32 ks xs.1 ≡ [] = absent_text 32 ks xs.1 (gone (all_absent ks xs.1) none) in
        subst (λ (t : List ℕ). Argument kind.OptionalWord (λ x. Row ks (maker x)) t (applied ks (maker None) xs.1))
        (sym e)
        (inl (refl, subst (λ (t : List ℕ). Row ks (maker None) t (applied ks (maker None) xs.1)) e h))
row_back (kind.Name ∷ ks) maker xs r f g =
    name_back (λ x. Row ks (maker x)) xs.0 (all_written 32 ks xs.1) _ f.0 (word_ends ks xs.1 r)
    (row_back ks (maker xs.0) xs.1 r f.1 g)
row_back (kind.Natural high ∷ ks) maker xs r f g =
    let p = and_parts (nat_le high 4294967295) (is_written_row ks) r in
    natural_back high (λ x. Row ks (maker x)) xs.0 (all_written 32 ks xs.1) _ p.0 f.0 (word_ends ks xs.1 p.1)
    (row_back ks (maker xs.0) xs.1 p.1 f.1 g)
row_back (kind.Wide ∷ ks) maker xs r f g =
    wide_back (λ x. Row ks (maker x)) xs.0 (all_written 32 ks xs.1) _ f.0 (word_ends ks xs.1 r)
    (row_back ks (maker xs.0) xs.1 r f.1 g)
row_back (kind.Flag ∷ ks) maker xs r f g =
    flag_back (λ x. Row ks (maker x)) xs.0 (all_written 32 ks xs.1) _ (word_ends ks xs.1 r)
    (row_back ks (maker xs.0) xs.1 r f.1 g)
row_back (kind.Sentence ∷ ks) maker xs r f g =
    sentence_back (λ x. Row ks (maker x)) 32 xs.0 (all_written 9 ks xs.1) _ f.0 (sentence_ends ks xs.1 r)
    (sentences_back ks (maker xs.0) xs.1 r f.1)
row_back (kind.Text ∷ []) maker xs r f g = nothing_back kind.Text maker xs.0 (32 ∷ xs.0) refl
row_back (kind.Text ∷ k ∷ ks) maker xs r f g = absurd (let n : ⊥ = cc in n)
row_back (kind.OptionalText ∷ []) maker xs r f g =
    nothing_back kind.OptionalText maker xs.0 (optional_text xs.0) (optional_text_back maker xs.0)
row_back (kind.OptionalText ∷ k ∷ ks) maker xs r f g = absurd (let n : ⊥ = cc in n)
row_back (kind.LoginFlags ∷ ks) maker xs r f g = absurd (let n : ⊥ = cc in n)
row_back (kind.Pairs ∷ []) maker xs r f g =
    nothing_back kind.Pairs maker xs.0 (pairs_text 32 xs.0) (pairs_back (λ ps c. c ≡ maker ps) xs.0 _ f.0 refl)
row_back (kind.Pairs ∷ k ∷ ks) maker xs r f g = absurd (let n : ⊥ = cc in n)
row_back (kind.Words ∷ []) maker xs r f g =
    nothing_back kind.Words maker xs.0 (words_text xs.0) (words_back (λ ws c. c ≡ maker ws) xs.0 _ f.0 refl)
row_back (kind.Words ∷ k ∷ ks) maker xs r f g = absurd (let n : ⊥ = cc in n)
