-- The line of a request reads as that request.
use Rattle.std.proofs.Common.{◌≡◌, ℕ, ◌<◌, ◌≤◌, List, [], ◌∷◌, ◌++◌, length, length-append, append_assoc, refl, sym, ap}
use Rattle.std.proofs.Common.{subst, ◌∙◌, Bool, true, false, cond, inl, inr, arith}
use Rattle.std.specs.Prelude.{◌==◌, ◌&&◌, not, nat_le, IfSome, Option, Some, None, IsTrue, MatchBool, decimal}
use Rattle.std.specs.List.{list_all}
use Rattle.std.proofs.lemmas.Bool.{and_parts, leb-true, eq-eqb}
use Rattle.line_words.specs.Bytes.{has_byte, is_text, is_text_byte, is_word, is_word_byte}
use Rattle.line_words.specs.Numbers.{is_digits, value_of}
use Rattle.line_words.specs.Words.{BeginsApart}
use Rattle.command_grammar.specs.declared.command.ReadFault.TheVariants as fault
use Rattle.command_grammar.specs.declared.command.Command.{Command}
use Rattle.command_grammar.specs.declared.command.Request.{Request}
use Rattle.command_grammar.specs.Arguments.{IsFault}
use Rattle.command_grammar.specs.Forms.{is_same, entry_named, command_named, Form, Row}
use Rattle.command_grammar.specs.Kinds.{fits, all_fit, keeps_kinds}
use Rattle.command_grammar.specs.Table.{Kind, Values, Arguments, Entry, entries, battle_entries, room_entries}
use Rattle.command_grammar.specs.Table.{host_entries, given, arguments_of}
use Rattle.command_grammar.proofs.ArgumentBounds.{entry_again}
use Rattle.command_grammar.proofs.Taken.{EachFits}
use Rattle.command_grammar.proofs.Cuts.{nor_first}
use Rattle.command_grammar.specs.Reads.{id_limit, Composed, Asks, Reads}
use Rattle.reply_kinds.proofs.Bytes.{all_append}
use Rattle.reply_kinds.proofs.Plain.{a_word}
use Rattle.reply_kinds.specs.Replies.{id_text}
use Rattle.request_printer.specs.declared.error.PrintError.{PrintError}
use Rattle.request_printer.specs.declared.error.PrintError.TheVariants.{OutOfRange, NothingListed, Skipped}
use Rattle.request_printer.specs.Faults.{in_range, all_listed, has_gap, fault_in, argument_fault, is_id, fault_of}
use Rattle.request_printer.specs.Writing.{all_written, HasEntry, HasWord, argument_text, Writes}
use Rattle.request_printer.proofs.Back.{absent}
use Rattle.reply_kinds.proofs.Decimals.{is_digits_decimal, decimal_value}
use Rattle.request_printer.proofs.Plain.{is_small, all_plain}
use Rattle.request_printer.proofs.Rows.{is_written_row, row_back, word_ends}

-- The table

abbrev is_sound : Entry → Bool
is_sound e = is_word e.word && (not (has_byte 35 e.word) && (is_written_row e.kinds && list_all is_small e.kinds))

all_sound : list_all is_sound entries ≡ true
unfolding entries battle_entries room_entries host_entries
all_sound = refl

sound_among : (es : List Entry) → list_all is_sound es ≡ true → (name : List ℕ)
    → IfSome (entry_named es name) (λ e. is_sound e ≡ true)
sound_among [] h name = tt
sound_among (e ∷ es) h name =
    let p = and_parts (is_sound e) (list_all is_sound es) h in
    by (is_same name e.word) (entry_named es name) p.0 (sound_among es p.1 name)
  where
    by : (t : Bool) (o : Option Entry) → is_sound e ≡ true → IfSome o (λ e. is_sound e ≡ true)
        → IfSome (cond t (Some e) o) (λ e. is_sound e ≡ true)
    by true o one others = one
    by false o one others = others

record Sound (e : Entry) : Type 0 where
  word : is_word e.word ≡ true
  no_id : not (has_byte 35 e.word) ≡ true
  row : is_written_row e.kinds ≡ true
  small : list_all is_small e.kinds ≡ true

entry_sound : (name : List ℕ) (e : Entry) → command_named name ≡ Some e → Sound e
entry_sound name e named =
    let h = subst (λ o. IfSome o (λ e. is_sound e ≡ true)) named (sound_among entries all_sound name) in
    let p = and_parts (is_word e.word)
    (not (has_byte 35 e.word) && (is_written_row e.kinds && list_all is_small e.kinds)) h in
    let q = and_parts (not (has_byte 35 e.word)) (is_written_row e.kinds && list_all is_small e.kinds) p.1 in
    let r = and_parts (is_written_row e.kinds) (list_all is_small e.kinds) q.1 in
    record { word = p.0; no_id = q.0; row = r.0; small = r.1 }

-- What a request keeps

pub each_fits : (before : Bool) (ks : List Kind) (xs : Values ks) → all_fit before ks xs ≡ true
    → (before ≡ true) × EachFits ks xs
each_fits before [] xs h = (h, tt)
each_fits before (k ∷ ks) xs h =
    let rest = each_fits (before && fits k xs.0) ks xs.1 h in
    let p = and_parts before (fits k xs.0) rest.0 in
    (p.0, (p.1, rest.1))

no_gap : (r l g : Bool) → cond r (cond l (cond g (Some Skipped) None) (Some NothingListed)) (Some OutOfRange) ≡ None
    → g ≡ false
no_gap true true true h = absurd (let n : ⊥ = cc in n)
no_gap true true false h = refl
no_gap true false g h = absurd (let n : ⊥ = cc in n)
no_gap false l g h = absurd (let n : ⊥ = cc in n)

id_fits : (t : Bool) (o : Option PrintError) → cond t o (Some OutOfRange) ≡ None → (t ≡ true) × (o ≡ None)
id_fits true o h = (refl, h)
id_fits false o h = absurd (let n : ⊥ = cc in n)

-- The text of a command

-- a text and what it asks for
record Text (c : Command) (text : List ℕ) : Type 0 where
  asks : Asks text c
  apart : BeginsApart text
  no_hash : (other : List ℕ) → text ≡ 35 ∷ other → ⊥

-- a word begins with no byte that it lacks
front_of : (b : ℕ) (w : List ℕ) → is_word w ≡ true → IsTrue (not (has_byte b w)) → (rest other : List ℕ)
    → w ++ rest ≡ b ∷ other → ⊥
front_of b [] some lacking rest other e = absurd (let n : ⊥ = cc in n)
front_of b (x ∷ w) some lacking rest other e =
    let head : x ≡ b = cc in
    let apart = nor_first (x == b) (has_byte b w) lacking in
    let same = eq-eqb x b head in
    let n : ⊥ = cc in n

apart_of : (text : List ℕ) → ((other : List ℕ) → text ≡ 32 ∷ other → ⊥) → BeginsApart text
apart_of [] h = tt
apart_of (b ∷ bs) h = λ e. h bs (ap (λ (x : ℕ). x ∷ bs) e)

asked : (text : List ℕ) (c : Command) → is_text text ≡ true → 0 < length text → Composed text c → Asks text c
asked [] c plain some h = absurd (omega arith)
asked (b ∷ bs) c plain some h = subst (λ t. MatchBool t (Composed (b ∷ bs) c) (IsFault fault.BadByte c)) (sym plain) h

entry_text : (c : Command) (word : List ℕ) → HasEntry c word → IsTrue (keeps_kinds c) → argument_fault c ≡ None
    → Text c (word ++ argument_text c)
entry_text c word h kinds fine =
    let e = h.entry in
    let s = entry_sound word e h.named in
    let is : given e.kinds h.values ≡ arguments_of c =
    sym (ap arguments_of h.made ∙ entry_again word e h.named h.values) in
    let fit = (each_fits true e.kinds h.values
    (subst (λ (a : Arguments). all_fit true a.kinds a.values ≡ true) (sym is) kinds)).1 in
    let gap : has_gap e.kinds h.values ≡ false =
    no_gap (in_range true e.kinds h.values) (all_listed true e.kinds h.values) (has_gap e.kinds h.values)
    (subst (λ (a : Arguments). fault_in a.kinds a.values ≡ None) (sym is) fine) in
    let row = row_back e.kinds e.maker h.values s.row fit gap in
    let rest : List ℕ = all_written 32 e.kinds h.values in
    let form : Form (command_named word) rest c =
    subst (λ o. Form o rest c) (sym h.named) (subst (λ d. Row e.kinds e.maker rest d) (sym h.made) row) in
    let is_a_word : is_word word ≡ true = subst (λ w. is_word w ≡ true) (sym h.word_is) s.word in
    let no_id : not (has_byte 35 word) ≡ true = subst (λ w. not (has_byte 35 w) ≡ true) (sym h.word_is) s.no_id in
    let bytes = and_parts (nat_le 1 (length word)) (list_all is_word_byte word) is_a_word in
    let no_space : not (has_byte 32 word) ≡ true = ap not (absent is_word_byte 32 word refl bytes.1) in
    let plain : is_text (word ++ rest) ≡ true =
    all_append is_text_byte word rest (a_word word is_a_word) (all_plain 32 e.kinds h.values refl s.small fit) in
    let some = leb-true 1 (length word) bytes.0 in
    let long : 0 < length (word ++ rest) = omega (arith, length-append word rest) in
    subst (λ (t : List ℕ). Text c (word ++ t)) (ap (λ (a : Arguments). all_written 32 a.kinds a.values) is) (record {
      asks = asked (word ++ rest) c plain long
          (record {
            name = word;
            rest = rest;
            whole = refl;
            no_space = no_space;
            ends = word_ends e.kinds h.values s.row;
            form = form;
          });
      apart = apart_of (word ++ rest) (front_of 32 word is_a_word no_space rest);
      no_hash = front_of 35 word is_a_word no_id rest;
    })

word_text : (c : Command) (word : List ℕ) → HasWord c word → IsTrue (keeps_kinds c) → argument_fault c ≡ None
    → Text c (word ++ argument_text c)
word_text c word (inl b) kinds fine =
    subst (λ (w : List ℕ). Text c (w ++ argument_text c)) (sym b.1)
    (subst (λ d. Text d (argument_text d)) (sym b.0) (record {
      asks = refl;
      apart = tt;
      no_hash = λ other e. let n : ⊥ = cc in n;
    }))
word_text c word (inr h) kinds fine = entry_text c word h kinds fine

-- The line

abbrev request : Option ℕ → Command → Request
request id c = record { id = id; command = c }

with_digits : (digits text : List ℕ) (id : ℕ) (c : Command) → Text c text → is_digits digits ≡ true
    → id ≡ value_of digits → id ≤ id_limit → Reads ((35 ∷ (digits ++ 32 ∷ [])) ++ text) (request (Some id) c)
with_digits digits text id c t are value small = record {
  trimmed = (35 ∷ (digits ++ 32 ∷ [])) ++ text;
  text = text;
  skips = record { gap = []; whole = refl; spaces = refl; apart = λ e. absurd (omega arith) };
  carries = record {
    digits = digits;
    gap = 32 ∷ [];
    whole = ap (λ (t : List ℕ). 35 ∷ t) (append_assoc digits (32 ∷ []) text);
    are_digits = are;
    value = value;
    fits = small;
    spaces = refl;
    some_space = omega arith;
    apart = t.apart;
  };
  asks = t.asks;
}

with_id : (id : Option ℕ) (c : Command) (text : List ℕ) → Text c text → is_id id ≡ true
    → Reads (id_text id ++ text) (request id c)
with_id None c text t fit = record {
  trimmed = text;
  text = text;
  skips = record { gap = []; whole = refl; spaces = refl; apart = t.apart };
  carries = (refl, λ other id h. t.no_hash _ h.whole);
  asks = t.asks;
}
with_id (Some id) c text t fit =
    let small : id ≤ id_limit = leb-true id id_limit fit in
    let lt : id < 10000000000 = omega arith in
    with_digits (decimal id) text id c t (is_digits_decimal id lt) (sym (decimal_value id lt)) small

pub request_reads_back : (r : Request) (line : List ℕ) → Writes r line → IsTrue (keeps_kinds r.command)
    → fault_of r ≡ None → Reads line r
request_reads_back r line w kinds fine =
    let f = id_fits (is_id r.id) (argument_fault r.command) fine in
    subst (λ (l : List ℕ). Reads l r) (sym w.whole)
    (with_id r.id r.command (w.word ++ argument_text r.command) (word_text r.command w.word w.has_word kinds f.1) f.0)
