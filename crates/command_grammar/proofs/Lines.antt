-- A line reads as one request.
use Rattle.std.proofs.Common.{◌≡◌, ℕ, ◌<◌, ◌≤◌, List, [], ◌∷◌, ◌++◌, length, length-append, refl, sym, ap, subst, ◌∙◌, Bool, true, false, cond, inl, inr, arith}
use Rattle.std.specs.Prelude.{◌==◌, ◌&&◌, not, nat_le, ◌⊎◌, IsTrue, MatchBool, Option, Some, None, Err}
use Rattle.std.specs.List.{list_all}
use Rattle.std.proofs.lemmas.Bool.{eqb-true, ne_eqb, and_parts, and_from, le-leb, leb-true}
use Rattle.line_words.specs.Bytes.{is_spaces, has_byte, is_text, is_digit}
use Rattle.line_words.specs.Numbers.{is_digits, value_of}
use Rattle.line_words.specs.Parts.{before, from}
use Rattle.line_words.specs.Words.{BeginsApart, EndsWord}
use Rattle.line_words.proofs.Splitting.{before-from, has_byte-before, from_ends}
use Rattle.command_grammar.specs.declared.command.ReadFault.TheVariants as fault
use Rattle.command_grammar.specs.declared.command.Command.{Command}
use Rattle.command_grammar.specs.declared.command.Request.{Request}
use Rattle.command_grammar.specs.Arguments.{IsFault}
use Rattle.command_grammar.specs.Forms.{command_named, Form}
use Rattle.command_grammar.specs.Readers.{without_spaces, command_of, known_at}
use Rattle.command_grammar.proofs.Cuts.{Parts, parts_of, skip_is, skipped, skipped_is, and_first, and_second}
use Rattle.command_grammar.proofs.Settles.{Settles, made, fault_made}
use Rattle.command_grammar.proofs.Tables.{form_settles}
use Rattle.command_grammar.specs.Reads.{id_limit, HasId, Carries, Composed, Asks, Reads}
use Rattle.command_grammar.specs.Reading.{text_of, is_id, id_of, with_id, numbered, request_with, request_of}

-- The text of a command

composed_settles : (text : List ℕ) → Settles (Composed text) (known_at (command_named (before 32 text)) (from 32 text))
composed_settles text =
    let one = form_settles (before 32 text) (from 32 text) (from_ends 32 text) in
    record {
      holds = record {
        name = before 32 text;
        rest = from 32 text;
        whole = before-from 32 text;
        no_space = ap not (has_byte-before 32 text);
        ends = from_ends 32 text;
        form = one.holds;
      };
      only = λ c h. one.only c (moved c h.name h.rest (parts_of h.name h.rest h.no_space h.ends) h.whole h.form);
    }
  where
    moved : (c : Command) (name rest : List ℕ) → Parts (name ++ rest) name rest → text ≡ name ++ rest → Form (command_named name) rest c → Form (command_named (before 32 text)) (from 32 text) c
    moved c name rest p whole f =
        let F : List ℕ → List ℕ → Type 0 = λ n r. Form (command_named n) r c in
        let name_is : name ≡ before 32 text = sym (ap (before 32) whole ∙ p.front) in
        let rest_is : rest ≡ from 32 text = sym (ap (from 32) whole ∙ p.back) in
        subst (λ r. F (before 32 text) r) rest_is (subst (λ n. F n rest) name_is f)

text_chosen : (text : List ℕ) (t : Bool) → Settles (λ c. MatchBool t (Composed text c) (IsFault fault.BadByte c)) (cond t (known_at (command_named (before 32 text)) (from 32 text)) (Err fault.BadByte))
text_chosen text true = composed_settles text
text_chosen text false = fault_made

pub text_settles : (text : List ℕ) → Settles (Asks text) (text_of text)
unfolding text_of
text_settles [] = made
text_settles (b ∷ bs) =
    let some : (length (b ∷ bs) == 0) ≡ false = ne_eqb (length (b ∷ bs)) 0 (λ e. omega arith) in
    rw some (text_chosen (b ∷ bs) (is_text (b ∷ bs)))

-- The message id

digit_apart : (b : ℕ) → IsTrue (is_digit b) → (b == 32) ≡ false
digit_apart b h = ne_eqb b 32 (λ e. let d : is_digit 32 ≡ true = subst (λ n. is_digit n ≡ true) e h in let n : ⊥ = cc in n)

digits_apart : (w : List ℕ) → IsTrue (list_all is_digit w) → IsTrue (not (has_byte 32 w))
digits_apart [] h = refl
digits_apart (x ∷ w) h = rw (digit_apart x (and_first (is_digit x) (list_all is_digit w) h)) (digits_apart w (and_second (is_digit x) (list_all is_digit w) h))

gap_ends : (gap text : List ℕ) → 0 < length gap → IsTrue (is_spaces gap) → EndsWord (gap ++ text)
gap_ends [] text h s = absurd (omega arith)
gap_ends (x ∷ gap) text h s = eqb-true x 32 (and_first (x == 32) (is_spaces gap) s)

-- a line that has an id is read so
id_by : (digits : List ℕ) → IsTrue (is_digits digits) → value_of digits ≤ id_limit → id_of digits ≡ Some (value_of digits)
id_by digits d v = rw (and_from (is_digits digits) (nat_le (value_of digits) id_limit) d (le-leb (value_of digits) id_limit v)) refl

behind_id : (line : List ℕ) (id : ℕ) (behind : List ℕ) → 0 < length behind → with_id line (Some id) behind ≡ (Some id, without_spaces behind)
behind_id line id [] h = absurd (omega arith)
behind_id line id (b ∷ behind) h = refl

pub numbered_id : (bs digits behind : List ℕ) (id : ℕ) → Parts bs digits behind → id_of digits ≡ Some id → 0 < length behind → numbered (35 ∷ bs) ≡ (Some id, without_spaces behind)
unfolding numbered
numbered_id bs digits behind id p is h =
    ap (λ (d : List ℕ). with_id (35 ∷ bs) (id_of d) (from 32 bs)) p.front ∙ ap (λ (b : List ℕ). with_id (35 ∷ bs) (id_of digits) b) p.back
    ∙ ap (λ (i : Option ℕ). with_id (35 ∷ bs) i behind) is ∙ behind_id (35 ∷ bs) id behind h

pub has_id_is : (line text : List ℕ) (id : ℕ) → HasId line text id → numbered line ≡ (Some id, text)
has_id_is line text id h =
    let behind : List ℕ = h.gap ++ text in
    let ends = gap_ends h.gap text h.some_space h.spaces in
    let digits_only : list_all is_digit h.digits ≡ true = and_second (nat_le 1 (length h.digits) && nat_le (length h.digits) 10) (list_all is_digit h.digits) h.are_digits in
    let p = parts_of h.digits behind (digits_apart h.digits digits_only) ends in
    let is : id_of h.digits ≡ Some id = id_by h.digits h.are_digits (let e = h.value in let f = h.fits in omega arith) ∙ ap Some (sym h.value) in
    let longer : 0 < length behind = let some = h.some_space in omega (arith, length-append h.gap text) in
    ap numbered h.whole ∙ numbered_id (h.digits ++ behind) h.digits behind id p is longer ∙ ap (λ (t : List ℕ). let q : Option ℕ × List ℕ = (Some id, t) in q) (skip_is h.gap text h.spaces h.apart)

-- and what is read as an id is one
id_test : (digits : List ℕ) (t : Bool) → is_id digits ≡ t → (id : ℕ) → cond t (Some (value_of digits)) None ≡ Some id → (is_id digits ≡ true) × (value_of digits ≡ id)
id_test digits true is id e = (is, cc)
id_test digits false is id e = absurd (let n : ⊥ = cc in n)

gap_first : (gap text behind : List ℕ) → behind ≡ gap ++ text → BeginsApart text → EndsWord behind → 0 < length behind → 0 < length gap
gap_first [] [] behind whole a e h = let n = ap length whole in omega arith
gap_first [] (x ∷ text) behind whole a e h = absurd (a (subst EndsWord whole e))
gap_first (x ∷ gap) text behind whole a e h = omega arith

pub has_id_made : (digits behind : List ℕ) (id : ℕ) → EndsWord behind → id_of digits ≡ Some id → 0 < length behind → HasId (35 ∷ (digits ++ behind)) (without_spaces behind) id
has_id_made digits behind id e is h =
    let s = skipped behind in
    let parts = id_test digits (is_id digits) refl id is in
    let both = and_parts (is_digits digits) (nat_le (value_of digits) id_limit) parts.0 in
    let small = leb-true (value_of digits) id_limit both.1 in
    let same = parts.1 in
    record {
      digits = digits;
      gap = s.gap;
      whole = ap (λ (t : List ℕ). 35 ∷ (digits ++ t)) s.whole;
      are_digits = both.0;
      value = sym same;
      fits = omega arith;
      spaces = s.spaces;
      some_space = gap_first s.gap (without_spaces behind) behind s.whole s.apart e h;
      apart = s.apart;
    }

-- a line is read with the id that it has, or as it stands
abbrev Found : List ℕ → Option ℕ × List ℕ → Type 0
Found line read = (read ≡ (None, line)) ⊎ ((id : ℕ) × (text : List ℕ) × (read ≡ (Some id, text)) × HasId line text id)

found_id : (bs behind : List ℕ) (id : Option ℕ) → from 32 bs ≡ behind → id_of (before 32 bs) ≡ id → Found (35 ∷ bs) (with_id (35 ∷ bs) id behind)
found_id bs behind None back is = inl refl
found_id bs [] (Some id) back is = inl refl
found_id bs (x ∷ behind) (Some id) back is =
    let ends : EndsWord (x ∷ behind) = subst EndsWord back (from_ends 32 bs) in
    let has = has_id_made (before 32 bs) (x ∷ behind) id ends is (omega arith) in
    let whole : before 32 bs ++ (x ∷ behind) ≡ bs = ap (λ (b : List ℕ). before 32 bs ++ b) (sym back) ∙ sym (before-from 32 bs) in
    inr (id, without_spaces (x ∷ behind), refl, subst (λ (r : List ℕ). HasId (35 ∷ r) (without_spaces (x ∷ behind)) id) whole has)

found_by : (b : ℕ) (bs : List ℕ) (t : Bool) → (b == 35) ≡ t → Found (b ∷ bs) (cond t (with_id (b ∷ bs) (id_of (before 32 bs)) (from 32 bs)) (None, b ∷ bs))
found_by b bs true is =
    let e : 35 ≡ b = sym (eqb-true b 35 is) in
    subst (λ n. Found (n ∷ bs) (with_id (n ∷ bs) (id_of (before 32 bs)) (from 32 bs))) e (found_id bs (from 32 bs) (id_of (before 32 bs)) refl refl)
found_by b bs false is = inl refl

found : (line : List ℕ) → Found line (numbered line)
unfolding numbered
found [] = inl refl
found (b ∷ bs) = found_by b bs (b == 35) refl

some_none : {id : ℕ} {line text : List ℕ} {read : Option ℕ × List ℕ} → read ≡ (None, line) → read ≡ (Some id, text) → ⊥
some_none {id} {line} {text} {read} e f = let n : None ≡ Some id = ap (λ (p : Option ℕ × List ℕ). p.0) (sym e ∙ f) in let m : ⊥ = cc in m

pub carries : (line : List ℕ) → Carries line (numbered line).0 (numbered line).1
carries line = elim (found line) [
  | inl e ↦ subst (λ (p : Option ℕ × List ℕ). Carries line p.0 p.1) (sym e) (refl, λ other id h. some_none e (has_id_is line other id h))
  | inr x ↦ subst (λ (p : Option ℕ × List ℕ). Carries line p.0 p.1) (sym x.2) x.3
]

pub carries_only : (line : List ℕ) (id : Option ℕ) (text : List ℕ) → Carries line id text → numbered line ≡ (id, text)
carries_only line (Some id) text h = has_id_is line text id h
carries_only line None text h = elim (found line) [
  | inl e ↦ e ∙ ap (λ (t : List ℕ). let p : Option ℕ × List ℕ = (None, t) in p) h.0
  | inr x ↦ absurd (h.1 x.1 x.0 x.3)
]

-- The request

-- the request that is read is one that the line reads as
pub request_read : (line : List ℕ) → Reads line (request_of line)
unfolding request_of
request_read line = record {
  trimmed = without_spaces line;
  text = (numbered (without_spaces line)).1;
  skips = skipped line;
  carries = carries (without_spaces line);
  asks = (text_settles (numbered (without_spaces line)).1).holds;
}

-- and there is no other
pub request_only : (line : List ℕ) (r : Request) → Reads line r → r ≡ request_of line
unfolding request_of
request_only line r h =
    let trimmed : numbered (without_spaces line) ≡ (r.id, h.text) = ap numbered (skipped_is h.skips) ∙ carries_only h.trimmed r.id h.text h.carries in
    let asked : r.command ≡ command_of (text_of h.text) = (text_settles h.text).only r.command h.asks in
    ap (λ (c : Command). let q : Request = record { id = r.id; command = c } in q) asked ∙ sym (ap request_with trimmed)
