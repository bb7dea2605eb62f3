-- The line that is written for a request is one line of a client: it has no LF, no CR at its end, and is short enough.
use Rattle.std.proofs.Common.{◌≡◌, ℕ, ◌≤◌, Bool, true, false, not, ◌==◌, ◌||◌, List, [], ◌∷◌, ◌++◌, length}
use Rattle.std.proofs.Common.{refl, sym, ap, ◌∙◌, subst, arith, append_assoc, length-append}
use Rattle.std.specs.Prelude.{Option, Some, None, MatchBool, decimal, if◌then◌else◌, nat_le, ◌&&◌}
use Rattle.std.specs.List.{list_all, list_any}
use Rattle.std.proofs.lemmas.Bool.{and_parts, leb-true, eqb-true}
use Rattle.std.proofs.lemmas.Fmt.{length-decimal-le}
use Rattle.line_words.specs.Bytes.{is_digit, is_spaces, is_text, is_text_byte}
use Rattle.line_words.specs.Numbers.{is_digits}
use Rattle.line_framer.specs.Frames.{without_cr}
use Rattle.line_framer.specs.Laws.{IsPlainLine}
use Rattle.line_framer.proofs.Cut.{without_cr-other}
use Rattle.command_grammar.specs.declared.command.Command.{Command}
use Rattle.command_grammar.specs.declared.command.ReadFault.{ReadFault}
use Rattle.command_grammar.specs.declared.command.ReadFault.TheVariants as fault
use Rattle.command_grammar.specs.declared.command.Request.{Request}
use Rattle.command_grammar.specs.Arguments.{IsFault}
use Rattle.command_grammar.specs.Reads.{Asks, Carries, Composed, Reads, id_limit, line_limit}
use Rattle.reply_kinds.specs.Replies.{id_text}
use Rattle.reply_kinds.proofs.Bytes.{all_append, all_more}
use Rattle.reply_kinds.proofs.Decimals.{digits_words}
use Rattle.reply_kinds.proofs.Plain.{decimal_plain, plain_words}
use Rattle.request_printer.specs.Faults.{IsUnread, is_id}
use Rattle.record_lines.specs.Masks.{unread_text}

-- a text

not_is : (b : Bool) → not b ≡ true → b ≡ false
not_is true h = cc
not_is false h = refl

other_than : (b : ℕ) → is_text_byte b ≡ true → ((b == 10) ≡ false) × ((b == 13) ≡ false)
other_than b h =
    let parts = and_parts (not (b == 10)) (not (b == 13)) h in
    (not_is (b == 10) parts.0, not_is (b == 13) parts.1)

no_feed : (t : List ℕ) → is_text t ≡ true → list_any (λ b. b == 10) t ≡ false
no_feed [] h = refl
no_feed (b ∷ t) h =
    let parts = and_parts (is_text_byte b) (is_text t) h in
    ap (λ here. here || list_any (λ c. c == 10) t) (other_than b parts.0).0 ∙ no_feed t parts.1

no_return : (t : List ℕ) → is_text t ≡ true → without_cr t ≡ t
no_return [] h = refl
no_return (b ∷ []) h =
    ap (λ here. if here then [] else b ∷ []) (other_than b (and_parts (is_text_byte b) true h).0).1
no_return (b ∷ c ∷ t) h =
    ap (λ (rest : List ℕ). b ∷ rest) (no_return (c ∷ t) (and_parts (is_text_byte b) (is_text (c ∷ t)) h).1)

pub plain_text : (limit : ℕ) (t : List ℕ) → is_text t ≡ true → length t ≤ limit → IsPlainLine limit t
plain_text limit t h fits = record { no_end = no_feed t h; no_cr = no_return t h; fits = fits }

-- the line of a request that was read

space_text : (b : ℕ) → (b == 32) ≡ true → is_text_byte b ≡ true
space_text b h = let is : b ≡ 32 = eqb-true b 32 h in subst (λ c. is_text_byte c ≡ true) (sym is) refl

spaces_text : (gap : List ℕ) → is_spaces gap ≡ true → is_text gap ≡ true
spaces_text gap h = all_more (λ b. b == 32) is_text_byte space_text gap h

digits_text : (digits : List ℕ) → is_digits digits ≡ true → is_text digits ≡ true
digits_text digits h =
    plain_words digits (digits_words digits
    (and_parts (nat_le 1 (length digits) && nat_le (length digits) 10) (list_all is_digit digits) h).1)

carried : (line text : List ℕ) (id : Option ℕ) → Carries line id text → is_text text ≡ true → is_text line ≡ true
carried line text None has h = subst (λ t. is_text t ≡ true) (sym has.0) h
carried line text (Some id) has h =
    subst (λ t. is_text t ≡ true) (sym has.whole)
    (all_append is_text_byte has.digits (has.gap ++ text) (digits_text has.digits has.are_digits)
    (all_append is_text_byte has.gap text (spaces_text has.gap has.spaces) h))

asked_text : (text : List ℕ) (c : Command) → Asks text c → (IsUnread c → ⊥) → is_text text ≡ true
asked_text [] c asks read = refl
asked_text (b ∷ bs) c asks read = by (is_text (b ∷ bs)) asks
  where
    by : (t : Bool) → MatchBool t (Composed (b ∷ bs) c) (IsFault fault.BadByte c) → t ≡ true
    by true is = refl
    by false is = absurd (read (fault.BadByte, is))

read_text : (line : List ℕ) (r : Request) → Reads line r → (IsUnread r.command → ⊥) → is_text line ≡ true
read_text line r reads read =
    subst (λ t. is_text t ≡ true) (sym reads.skips.whole)
    (all_append is_text_byte reads.skips.gap reads.trimmed (spaces_text reads.skips.gap reads.skips.spaces)
    (carried reads.trimmed reads.text r.id reads.carries (asked_text reads.text r.command reads.asks read)))

pub read_plain : (line : List ℕ) (r : Request) → Reads line r → (IsUnread r.command → ⊥) → length line ≤ line_limit
    → IsPlainLine line_limit line
read_plain line r reads read fits = plain_text line_limit line (read_text line r reads read) fits

-- the line in place of one that could not be read

id_plain : (id : Option ℕ) → is_id id ≡ true → (is_text (id_text id) ≡ true) × (length (id_text id) ≤ 12)
id_plain None h = (refl, omega arith)
id_plain (Some id) h =
    let small : id ≤ id_limit = leb-true id id_limit h in
    let digits = length-decimal-le 10 id (omega arith) (omega arith) (omega arith) in (
      all_append is_text_byte (decimal id) (32 ∷ []) (decimal_plain id (omega arith)) refl,
      omega (arith, length-append (decimal id) (32 ∷ [])),
    )

text_behind : (front : List ℕ) (f : ReadFault) → is_text (unread_text f) ≡ true → is_text front ≡ true
    → length front ≤ 12 → length (unread_text f) ≤ 100 → IsPlainLine line_limit (front ++ unread_text f)
text_behind front f is_plain h short few =
    plain_text line_limit (front ++ unread_text f) (all_append is_text_byte front (unread_text f) h is_plain)
    (omega (arith, length-append front (unread_text f)))

any_append : (a b : List ℕ) → list_any (λ c. c == 10) a ≡ false → list_any (λ c. c == 10) b ≡ false
    → list_any (λ c. c == 10) (a ++ b) ≡ false
any_append [] b h k = k
any_append (x ∷ a) b h k = by (x == 10) h (λ e. any_append a b e k)
  where
    by : (t : Bool) → (t || list_any (λ c. c == 10) a) ≡ false
        → (list_any (λ c. c == 10) a ≡ false → list_any (λ c. c == 10) (a ++ b) ≡ false)
        → (t || list_any (λ c. c == 10) (a ++ b)) ≡ false
    by true e more = absurd (let n : ⊥ = cc in n)
    by false e more = more e

unread_behind : (front : List ℕ) (f : ReadFault) → is_text front ≡ true → length front ≤ 12
    → IsPlainLine line_limit (front ++ unread_text f)
unread_behind front fault.UnknownCommand h short = text_behind front fault.UnknownCommand refl h short (omega arith)
unread_behind front fault.MissingArgument h short = text_behind front fault.MissingArgument refl h short (omega arith)
unread_behind front fault.BadNumber h short = text_behind front fault.BadNumber refl h short (omega arith)
unread_behind front fault.BadName h short = text_behind front fault.BadName refl h short (omega arith)
unread_behind front fault.BadByte h short = record {
  no_end = any_append front (63 ∷ 13 ∷ 63 ∷ []) (no_feed front h) refl;
  no_cr = ap without_cr (sym (append_assoc front (63 ∷ 13 ∷ []) (63 ∷ [])))
      ∙ without_cr-other (front ++ 63 ∷ 13 ∷ []) 63 (λ e. omega arith)
      ∙ append_assoc front (63 ∷ 13 ∷ []) (63 ∷ []);
  fits = omega (arith, length-append front (63 ∷ 13 ∷ 63 ∷ []));
}
unread_behind front fault.BadPair h short = text_behind front fault.BadPair refl h short (omega arith)

pub unread_plain : (id : Option ℕ) (f : ReadFault) → is_id id ≡ true
    → IsPlainLine line_limit (id_text id ++ unread_text f)
unread_plain id f h = let p = id_plain id h in unread_behind (id_text id) f p.0 p.1
