-- What the readers of a whole line make of it.
use Rattle.std.proofs.Common.{◌≡◌, ℕ, List, [], ◌∷◌, refl, sym, ap, subst, ◌∙◌, Bool, true, false, cond, inl, arith}
use Rattle.std.specs.Prelude.{ℤ, pos, ◌≤ℤ◌, IsTrue, Option, Some, None, Result, Ok, Err, nat_le}
use Rattle.std.proofs.lemmas.Bool.{and_parts, leb-true}
use Rattle.std.proofs.lemmas.Int.{ints}
use Rattle.line_words.specs.Numbers.{IsNumeral, is_digits, value_of}
use Rattle.command_grammar.specs.declared.command.ReadFault.{ReadFault}
use Rattle.command_grammar.specs.declared.command.Command.{Command}
use Rattle.command_grammar.specs.declared.command.Request.{Request}
use Rattle.command_grammar.specs.Owning.{owns_bytes}
use Rattle.command_grammar.specs.Readers.{without_spaces, command_of, needs_memory}
use Rattle.command_grammar.specs.Reads.{Reads, id_limit}
use Rattle.command_grammar.specs.Reading.{text_of, is_id, id_of, numbered, request_with, request_of}
use Rattle.command_grammar.proofs.Lines.{request_only}

numeral : (digits : List ℕ) → IsTrue (is_digits digits) → IsNumeral digits (pos (value_of digits))
numeral [] h = absurd (let n : ⊥ = cc in n)
numeral (b ∷ bs) h = inl (h, refl)

no_id_by : (digits : List ℕ) (t : Bool) → is_id digits ≡ t → ((z : ℤ) → IsNumeral digits z → pos 0 ≤ℤ z → z ≤ℤ pos id_limit → ⊥) → None ≡ cond t (Some (value_of digits)) None
no_id_by digits true is none =
    let both = and_parts (is_digits digits) (nat_le (value_of digits) id_limit) is in
    let small = leb-true (value_of digits) id_limit both.1 in
    absurd (none (pos (value_of digits)) (numeral digits both.0) (omega (arith, ints)) (omega (arith, ints)))
no_id_by digits false is none = refl

pub no_id : (digits : List ℕ) → ((z : ℤ) → IsNumeral digits z → pos 0 ≤ℤ z → z ≤ℤ pos id_limit → ⊥) → None ≡ id_of digits
no_id digits none = no_id_by digits (is_id digits) refl none

pub read_as : (line trimmed text : List ℕ) (id : Option ℕ) (c : Command) → trimmed ≡ without_spaces line → (let p : Option ℕ × List ℕ = (id, text) in p) ≡ numbered trimmed → c ≡ command_of (text_of text)
    → request_of line ≡ (let r : Request = record { id = id; command = c } in r)
unfolding request_of
read_as line trimmed text id c skipped found asked =
    let e : numbered (without_spaces line) ≡ (let p : Option ℕ × List ℕ = (id, text) in p) = sym (found ∙ ap numbered skipped) in
    ap request_with e ∙ ap (λ (d : Command). let r : Request = record { id = id; command = d } in r) (sym asked)

owned : (read : Result Command ReadFault) → IsTrue (needs_memory read) → IsTrue (owns_bytes (command_of read))
owned (Ok c) h = h
owned (Err f) h = absurd (let n : ⊥ = cc in n)

pub refused_as : (line trimmed text : List ℕ) (id : Option ℕ) → trimmed ≡ without_spaces line → (let p : Option ℕ × List ℕ = (id, text) in p) ≡ numbered trimmed → IsTrue (needs_memory (text_of text))
    → (r : Request) → Reads line r → IsTrue (owns_bytes r.command)
refused_as line trimmed text id skipped found needs r h =
    let e = request_only line r h ∙ read_as line trimmed text id (command_of (text_of text)) skipped found refl in
    subst (λ (q : Request). IsTrue (owns_bytes q.command)) (sym e) (owned (text_of text) needs)
