-- The lines of an event in a record.
use Rattle.std.specs.Prelude.{◌≡◌, ℕ, ◌^◌, ◌<◌, ◌⊎◌, Bool, IsTrue, List, [], ◌∷◌, ◌++◌, length, Vec, vec_capacity}
use Rattle.line_framer.specs.Laws.{IsPlainLine}
use Rattle.account_book.specs.Account.{Account}
use Rattle.command_grammar.specs.declared.command.Command.TheVariants as command
use Rattle.command_grammar.specs.declared.command.ReadFault.{ReadFault}
use Rattle.command_grammar.specs.declared.command.Request.{Request}
use Rattle.command_grammar.specs.Kinds.{keeps_kinds}
use Rattle.command_grammar.specs.Reads.{Reads, line_limit}
use Rattle.reply_kinds.specs.Replies.{id_text}
use Rattle.reply_printer.specs.Fronts.{LacksRoom}
use Rattle.request_printer.specs.declared.error.PrintError.{PrintError}
use Rattle.request_printer.specs.declared.error.PrintError.TheVariants as error
use Rattle.request_printer.specs.Faults.{is_id, NoneFits}
use Rattle.request_printer.specs.Writing.{Writes}
use Rattle.lobby_model.specs.declared.event.Event.{Event}
use Rattle.lobby_model.specs.declared.event.MadeEvent.{MadeEvent}
use Rattle.lobby_model.specs.declared.event.Event.TheVariants as event
use Rattle.record_lines.specs.Steps.{Step, Open, Send, Take, Read, Shut, AreLinesOf}
use Rattle.record_lines.specs.Printed.{NumberRefused, printed, HasRanges}
use Rattle.record_lines.specs.Masks.{is_other, masked, unread_text}
use Rattle.record_lines.specs.declared.masks.Masks.{Masks}
use Rattle.record_lines.specs.declared.fault.RecordFault.{RecordFault}
use Rattle.record_lines.specs.declared.fault.RecordFault.TheVariants as refused

-- the line of a request: that of a command, or the one in place of a line that could not be read
abbrev pub LineOf : Request → List ℕ → Type 0
LineOf r line = Writes r line
    ⊎ ((f : ReadFault) × (r.command ≡ command.Unread f) × (line ≡ id_text r.id ++ unread_text f))

-- the text is that line, with its LF. If the request was read of any line, it is one line of a client, and reads as the
-- request
pub record IsTextOf (r : Request) (text : List ℕ) : Type 0 where
  pub line : List ℕ
  pub whole : text ≡ line ++ 10 ∷ []
  pub is_line : LineOf r line
  pub plain : IsTrue (is_id r.id) → IsTrue (keeps_kinds r.command) → IsPlainLine line_limit line
  pub reads : IsTrue (is_id r.id) → IsTrue (keeps_kinds r.command) → Reads line r

-- the steps by which an event is played: a connect, a read and a disconnect are one each, what was said is its bytes
-- and their take
abbrev pub AreStepsOf : List Account → Bool → ℕ → Event → List Step → Type 0
AreStepsOf accounts private gain (event.Open ip home) steps = steps ≡ Open gain ip ∷ []
AreStepsOf accounts private gain (event.Say c request) steps =
    (text : List ℕ) × IsTextOf (masked accounts private request) text × (steps ≡ Send c text ∷ Take c ∷ [])
AreStepsOf accounts private gain (event.Drain c n) steps = steps ≡ Read c gain ∷ []
AreStepsOf accounts private gain (event.Shut c) steps = steps ≡ Shut c ∷ []

-- the two lines of what was said stand behind what was there
abbrev pub PrintsSaid : ℕ → ℕ → Request → List ℕ → List ℕ → Type 0
PrintsSaid place c r old new = (text : List ℕ) × IsTextOf r text
    × (new ≡ old ++ (printed place (Send c text) ++ printed place (Take c))) × (place < 2 ^ 64) × HasRanges (Take c)

-- the lines of an event stand behind what was there
pub record Records (masks : Masks) (made : MadeEvent) (old new : List ℕ) : Type 0 where
  pub steps : List Step
  pub are_steps : AreStepsOf masks.accounts masks.private made.gain made.event steps
  pub text : List ℕ
  pub are_lines : AreLinesOf made.place steps text
  pub whole : new ≡ old ++ text

-- so much room is too little for the line of a request, with its LF
pub record TextWants (r : Request) (room : ℕ) : Type 0 where
  pub line : List ℕ
  pub is_line : LineOf r line
  pub lacks : room < length (line ++ 10 ∷ [])

-- there is no room for the two lines of what was said
pub record LinesWant {Z : Type 0} (place c : ℕ) (r : Request) (out : Vec ℕ Z) : Type 0 where
  pub text : List ℕ
  pub is_text : IsTextOf r text
  pub lacks : LacksRoom out (printed place (Send c text) ++ printed place (Take c))

-- what was said wants memory: it is not written as it is, or the text or what is written to lacks room
abbrev pub SaidWants : {Y Z : Type 0} → List Account → Bool → ℕ → ℕ → Request → Vec ℕ Y → Vec ℕ Z → Type 0
SaidWants accounts private place c request out text =
    IsTrue (is_other private request.command)
    ⊎ (TextWants (masked accounts private request) (vec_capacity text)
    ⊎ LinesWant place c (masked accounts private request) out)

-- the lines of an event want memory
abbrev pub EntryWants : {Y Z : Type 0} → Masks → ℕ → ℕ → Event → Vec ℕ Y → Vec ℕ Z → Type 0
EntryWants masks place gain (event.Open ip home) out text = LacksRoom out (printed place (Open gain ip))
EntryWants masks place gain (event.Say c request) out text =
    SaidWants masks.accounts masks.private place c request out text
EntryWants masks place gain (event.Drain c n) out text = LacksRoom out (printed place (Read c gain))
EntryWants masks place gain (event.Shut c) out text = LacksRoom out (printed place (Shut c))

-- why the line of a request is not made; no line of a client that reads as it is short enough
abbrev pub TextRefused : RecordFault → Request → Type 0
TextRefused refused.Memory r = Unit {0}
TextRefused refused.Number r = ⊥
TextRefused refused.Line r = NoneFits r

-- why a request that was read is not written, by why it is not printed
abbrev pub fault_for : PrintError → RecordFault
fault_for error.Memory = refused.Memory
fault_for e = refused.Line

-- why an event is not written: a number has more than 32 bits, or no line of a client reads as what was said
abbrev pub Refuses : RecordFault → ℕ → Event → Type 0
Refuses e gain (event.Open ip home) = NumberRefused e gain
Refuses e gain (event.Say c request) = NumberRefused e c ⊎ TextRefused e request
Refuses e gain (event.Drain c n) = NumberRefused e c ⊎ NumberRefused e gain
Refuses e gain (event.Shut c) = NumberRefused e c
