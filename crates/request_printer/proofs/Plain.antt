-- No byte of written arguments is a CR or an LF.
use Rattle.std.proofs.Common.{◌≡◌, ℕ, Bool, true, false, List, [], ◌∷◌, length, Option, Some, None, refl, arith}
use Rattle.std.specs.Prelude.{nat_le}
use Rattle.std.specs.Fmt.{signed_decimal}
use Rattle.std.specs.List.{list_all}
use Rattle.std.proofs.lemmas.Bool.{and_parts, and_from, leb-true}
use Rattle.line_words.specs.Bytes.{is_text, is_text_byte, is_word}
use Rattle.line_words.specs.Kinds.{is_pair}
use Rattle.command_grammar.specs.Kinds.{fits, is_some_text}
use Rattle.command_grammar.specs.Table as kind
use Rattle.command_grammar.specs.Table.{Kind, Value, Values}
use Rattle.command_grammar.proofs.Taken.{EachFits}
use Rattle.reply_kinds.specs.Kinds.{optional_text}
use Rattle.reply_kinds.proofs.Bytes.{all_append}
use Rattle.reply_kinds.proofs.Decimals.{signed_words}
use Rattle.reply_kinds.proofs.Plain.{a_word, a_name, a_sentence, decimal_plain, flag_plain, optional_plain, pairs_plain}
use Rattle.reply_kinds.proofs.Plain.{plain_words, several}
use Rattle.request_printer.specs.Writing.{written, separator_behind, all_written}

-- numbers have 32 bits
abbrev pub is_small : Kind → Bool
is_small (kind.Natural high) = nat_le high 4294967295
is_small k = true

some_text_plain : (o : Option (List ℕ)) → is_some_text o ≡ true → is_text (optional_text o) ≡ true
some_text_plain None fit = refl
some_text_plain (Some t) fit = fit

written_plain : (separator : ℕ) (k : Kind) (x : Value k) → is_text_byte separator ≡ true → is_small k ≡ true → fits k x ≡ true
    → is_text (written separator k x) ≡ true
written_plain separator kind.Word x m small fit = a_word x fit
written_plain separator kind.OptionalWord x m small fit = optional_plain x fit
written_plain separator kind.Name x m small fit = a_name x fit
written_plain separator (kind.Natural high) x m small fit =
    let top = leb-true high 4294967295 small in
    let below = leb-true x high fit in
    decimal_plain x (omega arith)
written_plain separator kind.Wide x m small fit = plain_words (signed_decimal x) (signed_words x fit)
written_plain separator kind.Flag x m small fit = flag_plain x
written_plain separator kind.Sentence x m small fit = and_from (is_text_byte separator) (is_text x) m (a_sentence x fit)
written_plain separator kind.Text x m small fit = fit
written_plain separator kind.OptionalText x m small fit = some_text_plain x fit
written_plain separator kind.LoginFlags true m small fit = refl
written_plain separator kind.LoginFlags false m small fit = refl
written_plain separator kind.Pairs x m small fit =
    pairs_plain 32 x refl (and_parts (nat_le 1 (length x)) (list_all is_pair x) fit).1
written_plain separator kind.Words x m small fit =
    several is_word a_word x (and_parts (nat_le 1 (length x)) (list_all is_word x) fit).1

separator_plain : (k : Kind) (separator : ℕ) → is_text_byte separator ≡ true → is_text_byte (separator_behind k separator) ≡ true
separator_plain kind.Sentence separator m = refl
separator_plain _ separator m = m

pub all_plain : (separator : ℕ) (ks : List Kind) (xs : Values ks) → is_text_byte separator ≡ true → list_all is_small ks ≡ true
    → EachFits ks xs → is_text (all_written separator ks xs) ≡ true
all_plain separator [] xs m small fit = refl
all_plain separator (k ∷ ks) xs m small fit =
    let p = and_parts (is_small k) (list_all is_small ks) small in
    all_append is_text_byte (written separator k xs.0) (all_written (separator_behind k separator) ks xs.1)
    (written_plain separator k xs.0 m p.0 fit.0) (all_plain (separator_behind k separator) ks xs.1 (separator_plain k separator m) p.1 fit.1)
