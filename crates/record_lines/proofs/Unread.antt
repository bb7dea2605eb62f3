-- What stands in place of a line that could not be read is not read either.
use Rattle.std.proofs.Common.{◌≡◌, ℕ, ◌<◌, ◌≤◌, List, [], ◌∷◌, ◌++◌, refl, sym, ap, subst, append_assoc, true, arith}
use Rattle.std.specs.Prelude.{Option, Some, None, decimal}
use Rattle.std.proofs.lemmas.Bool.{leb-true}
use Rattle.line_words.specs.Words.{BeginsApart}
use Rattle.command_grammar.specs.declared.command.ReadFault.{ReadFault}
use Rattle.command_grammar.specs.declared.command.ReadFault.TheVariants as fault
use Rattle.command_grammar.specs.declared.command.Command.{Command}
use Rattle.command_grammar.specs.declared.command.Command.TheVariants as command
use Rattle.command_grammar.specs.declared.command.Request.{Request}
use Rattle.command_grammar.specs.Readers.{word_at, name_at, number_in, number_at, natural_at, optional_at, pair_in, pairs_of, pairs_at, text_at}
use Rattle.command_grammar.specs.Reading.{text_of}
use Rattle.command_grammar.specs.Reads.{id_limit, Asks, Reads}
use Rattle.command_grammar.specs.Table.{entries, battle_entries, room_entries, host_entries}
use Rattle.command_grammar.proofs.Lines.{text_settles}
use Rattle.reply_kinds.specs.Replies.{id_text}
use Rattle.request_printer.specs.Faults.{is_id}
use Rattle.reply_kinds.proofs.Decimals.{is_digits_decimal, decimal_value}
use Rattle.record_lines.specs.Masks.{unread_text}

asks : (f : ReadFault) → Asks (unread_text f) (command.Unread f)
unfolding text_of entries battle_entries room_entries host_entries word_at optional_at name_at number_in number_at natural_at text_at pair_in pairs_of pairs_at
asks fault.UnknownCommand = (text_settles (unread_text fault.UnknownCommand)).holds
asks fault.MissingArgument = (text_settles (unread_text fault.MissingArgument)).holds
asks fault.BadNumber = (text_settles (unread_text fault.BadNumber)).holds
asks fault.BadName = (text_settles (unread_text fault.BadName)).holds
asks fault.BadByte = (text_settles (unread_text fault.BadByte)).holds
asks fault.BadPair = (text_settles (unread_text fault.BadPair)).holds

apart : (f : ReadFault) → BeginsApart (unread_text f)
apart fault.UnknownCommand = λ e. absurd (omega arith)
apart fault.MissingArgument = λ e. absurd (omega arith)
apart fault.BadNumber = λ e. absurd (omega arith)
apart fault.BadName = λ e. absurd (omega arith)
apart fault.BadByte = λ e. absurd (omega arith)
apart fault.BadPair = λ e. absurd (omega arith)

first_is : (a : ℕ) (xs other : List ℕ) → a ∷ xs ≡ 35 ∷ other → a ≡ 35
first_is a xs other e = cc

no_hash : (f : ReadFault) (other : List ℕ) → unread_text f ≡ 35 ∷ other → ⊥
no_hash fault.UnknownCommand other e = let n = first_is 63 _ other e in omega arith
no_hash fault.MissingArgument other e = let n = first_is 74 _ other e in omega arith
no_hash fault.BadNumber other e = let n = first_is 77 _ other e in omega arith
no_hash fault.BadName other e = let n = first_is 74 _ other e in omega arith
no_hash fault.BadByte other e = let n = first_is 63 _ other e in omega arith
no_hash fault.BadPair other e = let n = first_is 83 _ other e in omega arith

abbrev request : Option ℕ → Command → Request
request id c = record { id = id; command = c }

with_digits : (id : ℕ) (f : ReadFault) → id < 10000000000 → id ≤ id_limit
    → Reads ((35 ∷ (decimal id ++ 32 ∷ [])) ++ unread_text f) (request (Some id) (command.Unread f))
with_digits id f small fits = record {
  trimmed = (35 ∷ (decimal id ++ 32 ∷ [])) ++ unread_text f;
  text = unread_text f;
  skips = record { gap = []; whole = refl; spaces = refl; apart = λ e. absurd (omega arith) };
  carries = record {
    digits = decimal id;
    gap = 32 ∷ [];
    whole = ap (λ (t : List ℕ). 35 ∷ t) (append_assoc (decimal id) (32 ∷ []) (unread_text f));
    are_digits = is_digits_decimal id small;
    value = sym (decimal_value id small);
    fits = fits;
    spaces = refl;
    some_space = omega arith;
    apart = apart f;
  };
  asks = asks f;
}

with_id : (id : Option ℕ) (f : ReadFault) → is_id id ≡ true
    → Reads (id_text id ++ unread_text f) (request id (command.Unread f))
with_id None f fit = record {
  trimmed = unread_text f;
  text = unread_text f;
  skips = record { gap = []; whole = refl; spaces = refl; apart = apart f };
  carries = (refl, λ other id h. no_hash f _ h.whole);
  asks = asks f;
}
with_id (Some id) f fit =
    let fits : id ≤ id_limit = leb-true id id_limit fit in
    let small : id < 10000000000 = omega arith in
    with_digits id f small fits

pub unread_reads : (r : Request) (f : ReadFault) → r.command ≡ command.Unread f → is_id r.id ≡ true
    → Reads (id_text r.id ++ unread_text f) r
unread_reads r f is fit =
    subst (λ c. Reads (id_text r.id ++ unread_text f) (request r.id c)) (sym is) (with_id r.id f fit)
