-- The lines of an event, of the lines of its steps.
use Rattle.std.proofs.Common.{◌≡◌, ℕ, List, [], ◌∷◌, ◌++◌, length, take, refl, sym, ap, ◌∙◌, subst, append-nil, append_assoc, ◌+◌, ◌<◌, arith, vec_capacity, Vec}
use Rattle.std.proofs.Common.{inl, inr}
use Rattle.std.specs.Prelude.{Bool, Result, Ok, Err, OnOk, IfErr, ◌⊎◌}
use Rattle.std.specs.List.{AllByRecursion}
use Rattle.account_book.specs.Account.{Account, IsHeld}
use Rattle.command_grammar.specs.declared.command.Command.TheVariants as command
use Rattle.command_grammar.specs.declared.command.ReadFault.{ReadFault}
use Rattle.command_grammar.specs.declared.command.Request.{Request}
use Rattle.reply_kinds.specs.Replies.{id_text}
use Rattle.reply_printer.specs.Fronts.{Keeps}
use Rattle.reply_printer.proofs.Kept.{front_all}
use Rattle.request_printer.specs.declared.error.PrintError.{PrintError}
use Rattle.request_printer.specs.declared.error.PrintError.TheVariants as error
use Rattle.request_printer.specs.Faults.{IsUnread, Printed, Refuses, WantsRoom}
use Rattle.lobby_model.specs.declared.event.Event.TheVariants as event
use Rattle.lobby_model.specs.declared.event.MadeEvent.{MadeEvent}
use Rattle.record_lines.specs.declared.fault.RecordFault.{RecordFault}
use Rattle.record_lines.specs.declared.fault.RecordFault.TheVariants as refused
use Rattle.record_lines.specs.declared.masks.Masks.{Masks}
use Rattle.record_lines.specs.Steps.{Step, Open, Send, Take, Read, Shut}
use Rattle.record_lines.specs.Printed.{NumberRefused, Prints, printed}
use Rattle.record_lines.specs.Masks.{masked, unread_text}
use Rattle.record_lines.specs.Entries.{AreStepsOf, IsTextOf, PrintsSaid, Records, TextRefused, TextWants, fault_for}
use Rattle.request_printer.proofs.Gaps.{wordless}
use Rattle.record_lines.proofs.PlainLines.{read_plain, unread_plain}
use Rattle.record_lines.proofs.StepLines.{more_lines}
use Rattle.record_lines.proofs.Shorter.{none_fits}
use Rattle.record_lines.proofs.Unread.{unread_reads}

-- the text of a request

pub unread_text_of : (r : Request) (f : ReadFault) (old new : List ℕ) → r.command ≡ command.Unread f → old ≡ []
    → new ≡ old ++ (id_text r.id ++ (unread_text f ++ 10 ∷ [])) → IsTextOf r new
unread_text_of r f old new is none put = record {
  line = id_text r.id ++ unread_text f;
  whole = put ∙ ap (λ (t : List ℕ). t ++ (id_text r.id ++ (unread_text f ++ 10 ∷ []))) none
      ∙ sym (append_assoc (id_text r.id) (unread_text f) (10 ∷ []));
  is_line = inr (f, is, refl);
  plain = λ id kinds. unread_plain r.id f id;
  reads = λ id kinds. unread_reads r f is id;
}

pub printed_text_of : (r : Request) (old new : List ℕ) → old ≡ [] → Printed r old new → IsTextOf r new
printed_text_of r old new none print = record {
  line = print.line;
  whole = print.whole ∙ ap (λ (t : List ℕ). t ++ (print.line ++ 10 ∷ [])) none;
  is_line = inl print.writes;
  plain = λ id kinds. read_plain print.line r (print.reads kinds)
      (λ unread. wordless print.writes.word r.command unread print.writes.has_word) print.fits;
  reads = λ id kinds. print.reads kinds;
}

-- its two lines
pub prints_said : (place c : ℕ) (r : Request) (text old mid new : List ℕ) → IsTextOf r text
    → Prints place (Send c text) old mid → Prints place (Take c) mid new → PrintsSaid place c r old new
prints_said place c r text old mid new is send take = (
  text,
  is,
  take.0 ∙ ap (λ (t : List ℕ). t ++ printed place (Take c)) send.0
      ∙ append_assoc old (printed place (Send c text)) (printed place (Take c)),
  take.1,
  take.2,
)

module _ (masks : Masks) (made : MadeEvent) (old new : List ℕ) where
  -- an event of one step
  pub one : (s : Step) → AreStepsOf masks.accounts masks.private made.gain made.event (s ∷ [])
      → Prints made.place s old new → Records masks made old new
  one s are prints = record {
    steps = s ∷ [];
    are_steps = are;
    text = printed made.place s ++ [];
    are_lines = more_lines made.place s [] [] prints.1 prints.2 refl;
    whole = prints.0 ∙ ap (λ (t : List ℕ). old ++ t) (sym (append-nil (printed made.place s)));
  }

  -- what was said
  pub said : (c : ℕ) (request : Request) → made.event ≡ event.Say c request
      → PrintsSaid made.place c (masked masks.accounts masks.private request) old new → Records masks made old new
  said c request is prints =
      let text = prints.0 in
      let take = printed made.place (Take c) in
      record {
        steps = Send c text ∷ Take c ∷ [];
        are_steps = subst (λ e. AreStepsOf masks.accounts masks.private made.gain e (Send c text ∷ Take c ∷ [])) (sym is)
            (text, prints.1, refl);
        text = printed made.place (Send c text) ++ (take ++ []);
        are_lines = more_lines made.place (Send c text) (Take c ∷ []) (take ++ []) prints.3 prints.4
            (more_lines made.place (Take c) [] [] prints.3 prints.4 refl);
        whole = prints.2
            ∙ ap (λ (t : List ℕ). old ++ (printed made.place (Send c text) ++ t)) (sym (append-nil take));
      }

  -- the lines of each kind of event, where they are put

  pub opened : {A E : Type 0} (r : Result A E) (ip : List ℕ) (home : ℕ) → made.event ≡ event.Open ip home
      → OnOk r (Prints made.place (Open made.gain ip) old new) → OnOk r (Records masks made old new)
  opened (Ok x) ip home is prints = one (Open made.gain ip)
      (subst (λ e. AreStepsOf masks.accounts masks.private made.gain e (Open made.gain ip ∷ [])) (sym is) refl) prints
  opened (Err e) ip home is prints = tt

  pub spoken : {A E : Type 0} (r : Result A E) (c : ℕ) (request : Request) → made.event ≡ event.Say c request
      → OnOk r (PrintsSaid made.place c (masked masks.accounts masks.private request) old new)
      → OnOk r (Records masks made old new)
  spoken (Ok x) c request is prints = said c request is prints
  spoken (Err e) c request is prints = tt

  pub drained : {A E : Type 0} (r : Result A E) (c n : ℕ) → made.event ≡ event.Drain c n
      → OnOk r (Prints made.place (Read c made.gain) old new) → OnOk r (Records masks made old new)
  drained (Ok x) c n is prints = one (Read c made.gain)
      (subst (λ e. AreStepsOf masks.accounts masks.private made.gain e (Read c made.gain ∷ [])) (sym is) refl) prints
  drained (Err e) c n is prints = tt

  pub closed : {A E : Type 0} (r : Result A E) (c : ℕ) → made.event ≡ event.Shut c
      → OnOk r (Prints made.place (Shut c) old new) → OnOk r (Records masks made old new)
  closed (Ok x) c is prints = one (Shut c)
      (subst (λ e. AreStepsOf masks.accounts masks.private made.gain e (Shut c ∷ [])) (sym is) refl) prints
  closed (Err e) c is prints = tt

-- why what was said is not written
pub said_refused : (accounts : List Account) (private : Bool) → AllByRecursion IsHeld accounts → (e : RecordFault) (c : ℕ) (r : Request)
    → NumberRefused e c ⊎ TextRefused e (masked accounts private r) → NumberRefused e c ⊎ TextRefused e r
said_refused accounts private held e c r (inl number) = inl number
said_refused accounts private held refused.Memory c r (inr text) = inr text
said_refused accounts private held refused.Number c r (inr text) = inr text
said_refused accounts private held refused.Line c r (inr text) = inr (none_fits accounts held private r.id r.command text)

pub if_said_refused : {A : Type 0} (r : Result A RecordFault) (accounts : List Account) (private : Bool)
    → AllByRecursion IsHeld accounts → (c : ℕ) (request : Request)
    → IfErr r (λ e. NumberRefused e c ⊎ TextRefused e (masked accounts private request))
    → IfErr r (λ e. NumberRefused e c ⊎ TextRefused e request)
if_said_refused (Ok x) accounts private held c request refused = tt
if_said_refused (Err e) accounts private held c request refused = said_refused accounts private held e c request refused

-- why a request that was read is not written
pub read_refused : (e : PrintError) (r : Request) → (IsUnread r.command → ⊥) → Refuses e r
    → TextRefused (fault_for e) r
read_refused error.Unread r read refused = absurd (read refused)
read_refused error.OutOfRange r read refused = λ line reads. absurd (refused.1 line reads)
read_refused error.NothingListed r read refused = λ line reads. absurd (refused.1 line reads)
read_refused error.Skipped r read refused = λ line reads. absurd (refused.1 line reads)
read_refused error.TooLong r read refused = refused.1
read_refused error.Memory r read refused = tt

-- why memory is refused for the line of a request, in an empty text

pub unread_wants : (r : Request) (f : ReadFault) (old : List ℕ) (room : ℕ) → r.command ≡ command.Unread f → old ≡ []
    → room < length old + length (id_text r.id ++ (unread_text f ++ 10 ∷ [])) → TextWants r room
unread_wants r f old room is none lacks =
    let whole = ap length (append_assoc (id_text r.id) (unread_text f) (10 ∷ [])) in
    let empty : length old ≡ 0 = ap length none in
    record {
      line = id_text r.id ++ unread_text f;
      is_line = inr (f, is, refl);
      lacks = omega (arith, whole, empty, lacks);
    }

line_wants : {Z : Type 0} (r : Request) (text : Vec ℕ Z) → text.items ≡ [] → WantsRoom r text
    → TextWants r (vec_capacity text)
line_wants r text none wants =
    let empty : length text.items ≡ 0 = ap length none in
    let lacks = wants.lacks in
    record { line = wants.line; is_line = inl wants.writes; lacks = omega (arith, empty, lacks) }

pub printed_wants : {Z : Type 0} (e : PrintError) (r : Request) (text : Vec ℕ Z) → text.items ≡ []
    → fault_for e ≡ refused.Memory
    → ((let answer : Result (Unit {0}) PrintError = Err e in answer ≡ Err error.Memory) → WantsRoom r text)
    → TextWants r (vec_capacity text)
printed_wants error.Memory r text none same wants = line_wants r text none (wants refl)
printed_wants error.Unread r text none same wants = absurd (let n : ⊥ = cc in n)
printed_wants error.OutOfRange r text none same wants = absurd (let n : ⊥ = cc in n)
printed_wants error.NothingListed r text none same wants = absurd (let n : ⊥ = cc in n)
printed_wants error.Skipped r text none same wants = absurd (let n : ⊥ = cc in n)
printed_wants error.TooLong r text none same wants = absurd (let n : ⊥ = cc in n)

-- an event that is taken back leaves what stood before it
pub taken_back : (old new : List ℕ) → Keeps old new → take (length old) new ≡ old
taken_back old new keeps = keeps old (front_all old)
