-- What printing tells of a request.
use Rattle.std.proofs.Common.{◌≡◌, ℕ, ◌≤◌, List, [], ◌∷◌, ◌++◌, length, refl, sym, subst, ◌∙◌, Bool, true, false, cond}
use Rattle.std.proofs.Common.{arith}
use Rattle.std.specs.Prelude.{OnOk, Some, None, Result, Ok, Err, Vec}
use Rattle.command_grammar.specs.declared.command.Request.{Request}
use Rattle.command_grammar.specs.Table.{arguments_of}
use Rattle.command_grammar.specs.Reads.{Reads}
use Rattle.request_printer.specs.declared.error.PrintError.{PrintError}
use Rattle.request_printer.specs.declared.error.PrintError.TheVariants.{Unread, OutOfRange, NothingListed, Skipped}
use Rattle.request_printer.specs.declared.error.PrintError.TheVariants.{TooLong, Memory}
use Rattle.request_printer.specs.Faults.{in_range, all_listed, has_gap, is_id, fault_of, line_limit, LineRefused}
use Rattle.reply_printer.specs.Fronts.{LacksRoom}
use Rattle.request_printer.specs.Faults.{Printed, Refuses, WantsRoom}
use Rattle.request_printer.specs.Writing.{HasWord, Writes, line_under}
use Rattle.request_printer.proofs.Gaps.{no_fault, no_shorter, wordless}
use Rattle.request_printer.proofs.Lines.{request_reads_back}

abbrev is_fault : PrintError → Bool
is_fault OutOfRange = true
is_fault NothingListed = true
is_fault Skipped = true
is_fault e = false

fault_kind : (a b c d : Bool) (e : PrintError)
    → cond a (cond b (cond c (cond d (Some Skipped) None) (Some NothingListed)) (Some OutOfRange)) (Some OutOfRange)
    ≡ Some e → is_fault e ≡ true
fault_kind true true true true e h = let is : Skipped ≡ e = cc in subst (λ f. is_fault f ≡ true) is refl
fault_kind true true true false e h = absurd (let n : ⊥ = cc in n)
fault_kind true true false d e h = let is : NothingListed ≡ e = cc in subst (λ f. is_fault f ≡ true) is refl
fault_kind true false c d e h = let is : OutOfRange ≡ e = cc in subst (λ f. is_fault f ≡ true) is refl
fault_kind false b c d e h = let is : OutOfRange ≡ e = cc in subst (λ f. is_fault f ≡ true) is refl

none_reads : (r : Request) (e : PrintError) → fault_of r ≡ Some e → (line : List ℕ) → Reads line r → ⊥
none_reads r e h line reads =
    let n = no_fault line r reads in let both : None ≡ Some e = sym n ∙ h in let m : ⊥ = cc in m

refused_by : (e : PrintError) (r : Request) → is_fault e ≡ true → fault_of r ≡ Some e → Refuses e r
refused_by OutOfRange r k h = (h, none_reads r OutOfRange h)
refused_by NothingListed r k h = (h, none_reads r NothingListed h)
refused_by Skipped r k h = (h, none_reads r Skipped h)
refused_by Unread r k h = absurd (let n : ⊥ = cc in n)
refused_by TooLong r k h = absurd (let n : ⊥ = cc in n)
refused_by Memory r k h = absurd (let n : ⊥ = cc in n)

pub refused : (e : PrintError) (r : Request) → fault_of r ≡ Some e → Refuses e r
refused e r h =
    let a = arguments_of r.command in
    refused_by e r (fault_kind (is_id r.id) (in_range true a.kinds a.values) (all_listed true a.kinds a.values)
    (has_gap a.kinds a.values) e h) h

written_so : (r : Request) (word : List ℕ) → HasWord r.command word → Writes r (line_under r word)
written_so r word has = record { word = word; has_word = has; whole = refl }

pub printed : (r : Request) (word old new : List ℕ) → HasWord r.command word → fault_of r ≡ None
    → new ≡ old ++ (line_under r word ++ 10 ∷ []) → length (line_under r word) ≤ line_limit → Printed r old new
printed r word old new has fine whole short =
    let w = written_so r word has in
    record {
      line = line_under r word;
      writes = w;
      whole = whole;
      fits = short;
      reads = λ kinds. request_reads_back r (line_under r word) w kinds fine;
    }

pub line_refused : (e : PrintError) (r : Request) (word : List ℕ) → HasWord r.command word → fault_of r ≡ None
    → LineRefused e (line_under r word) → Refuses e r
line_refused Memory r word has fine h = (fine, λ unread. wordless word r.command unread has)
line_refused TooLong r word has fine h =
    (fine, λ line reads. let s = no_shorter r (line_under r word) line (written_so r word has) reads in omega arith)
line_refused Unread r word has fine h = absurd h
line_refused OutOfRange r word has fine h = absurd h
line_refused NothingListed r word has fine h = absurd h
line_refused Skipped r word has fine h = absurd h

-- no fault of a request is that of memory
pub not_memory : (e : PrintError) (r : Request) → fault_of r ≡ Some e → e ≡ Memory → ⊥
not_memory e r h is =
    let told : Refuses Memory r = refused Memory r (subst (λ f. fault_of r ≡ Some f) is h) in
    let both : None ≡ Some e = sym told.0 ∙ h in cc

pub wants_room : {Z : Type 0} (r : Request) (word : List ℕ) (out : Vec ℕ Z) → HasWord r.command word
    → LacksRoom out (line_under r word ++ 10 ∷ []) → WantsRoom r out
wants_room r word out has lacks = record { line = line_under r word; writes = written_so r word has; lacks = lacks }

pub on_ok : {A E : Type 0} {P Q R : Type 0} (r : Result A E) → (P → Q → R) → OnOk r P → OnOk r Q → OnOk r R
on_ok (Ok x) f p q = f p q
on_ok (Err e) f p q = p
