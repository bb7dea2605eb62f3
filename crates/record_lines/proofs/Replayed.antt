-- The schedule of a record's steps gives the events that the record was made of.
use Rattle.std.proofs.Common.{◌≡◌, ℕ, ◌+◌, ◌≤◌, List, [], ◌∷◌, ◌++◌, length, refl, sym, ap, ◌∙◌, subst, true, false, cond}
use Rattle.std.proofs.Common.{arith, append-nil, length-append}
use Rattle.std.specs.Prelude.{Option, Some, None, IfSome, MatchBool, if◌then◌else◌, is_some, slice_get}
use Rattle.std.specs.Ordering.{nat_cmp}
use Rattle.std.specs.Cmp.{nat_cmp_total}
use Rattle.std.specs.FinMap.Entries.{find-put}
use Rattle.std.proofs.lemmas.Bool.{le-leb}
use Rattle.line_words.specs.Table.{at_number, put_number, same_number}
use Rattle.line_framer.specs.Frames.{frames, is_spoilt, rest_of, with_ends}
use Rattle.line_framer.specs.Laws.{ComesOut, IsPlainLine}
use Rattle.line_framer.proofs.Limit.{plain_come_out}
use Rattle.line_framer.proofs.Stands.{frames-append, spoilt-append, rest-append}
use Rattle.command_grammar.specs.Reads.{id_limit, line_limit}
use Rattle.command_grammar.proofs.Bounds.{request_id_keeps, request_keeps}
use Rattle.command_grammar.proofs.Lines.{request_only}
use Rattle.request_printer.specs.Faults.{is_id}
use Rattle.lobby_model.specs.declared.event.Event.{Event}
use Rattle.lobby_model.specs.declared.event.Event.TheVariants as event
use Rattle.lobby_model.specs.declared.schedule.Step.TheVariants as step
use Rattle.lobby_model.specs.State.{State}
use Rattle.lobby_model.specs.Sessions.{has_place}
use Rattle.lobby_model.specs.Sound.{Sound}
use Rattle.lobby_model.specs.Next.{next}
use Rattle.lobby_model.specs.Schedule.{Gives, Input, TakeGives, World, input, input_of, is_open, moved, with_bytes, with_taken}
use Rattle.lobby_model.proofs.Delivered.{same_itself}
use Rattle.lobby_model.proofs.EventsKept.{next_keeps}
use Rattle.record_lines.specs.Masks.{masked}
use Rattle.record_lines.specs.Played.{played, played_from, bytes_taken}
use Rattle.record_lines.specs.Schedules.{AllHappen, AreAllSteps, schedule_of}
use Rattle.record_lines.specs.Steps as said
use Rattle.record_lines.proofs.Homed.{there_homed}
use Rattle.record_lines.proofs.Recorded.{next_same, place_same, shown}
use Rattle.record_lines.proofs.Shorter.{masked_keeps}

-- What came from a client, line by line

-- all lines that came were taken, and nothing is left
pub record IsSettled (given : Input) : Type 0 where
  pub sound : is_spoilt given.bytes line_limit ≡ false
  pub over : rest_of given.bytes ≡ []
  pub taken : length (frames given.bytes line_limit) ≡ given.taken

-- one line more came
abbrev one_more : Input → List ℕ → Input
one_more given line = record { bytes = given.bytes ++ (line ++ 10 ∷ []); taken = given.taken }

last_at : (xs : List (List ℕ)) (y : List ℕ) → slice_get (xs ++ y ∷ []) (length xs) ≡ Some y
last_at [] y = refl
last_at (x ∷ xs) y = last_at xs y

module _ (given : Input) (settled : IsSettled given) (line : List ℕ) (plain : IsPlainLine line_limit line) where
  abbrev piece : List ℕ
  piece = line ++ 10 ∷ []

  comes : ComesOut (line ∷ []) line_limit
  comes = plain_come_out (line ∷ []) line_limit (plain, tt)

  ends_are : with_ends (line ∷ []) ≡ piece
  ends_are = append-nil piece

  behind : rest_of given.bytes ++ piece ≡ piece
  behind = ap (λ (rest : List ℕ). rest ++ piece) settled.over

  all_frames : frames (given.bytes ++ piece) line_limit ≡ frames given.bytes line_limit ++ line ∷ []
  all_frames =
      frames-append given.bytes piece line_limit settled.sound
      ∙ ap (λ b. frames given.bytes line_limit ++ frames b line_limit) (behind ∙ sym ends_are)
      ∙ ap (λ ls. frames given.bytes line_limit ++ ls) comes.frames_are

  next_is : slice_get (frames (given.bytes ++ piece) line_limit) given.taken ≡ Some line
  next_is =
      ap (λ ls. slice_get ls given.taken) all_frames
      ∙ ap (λ n. slice_get (frames given.bytes line_limit ++ line ∷ []) n) (sym settled.taken)
      ∙ last_at (frames given.bytes line_limit) line

  still_settled : IsSettled (record { bytes = given.bytes ++ piece; taken = given.taken + 1 })
  still_settled = record {
    sound = spoilt-append given.bytes piece line_limit settled.sound
        ∙ ap (λ b. is_spoilt b line_limit) (behind ∙ sym ends_are) ∙ comes.spoilt_is;
    over = rest-append given.bytes piece line_limit settled.sound ∙ ap rest_of (behind ∙ sym ends_are) ∙ comes.rest_is;
    taken = let all = ap length all_frames in
        omega (arith, all, length-append (frames given.bytes line_limit) (line ∷ []), settled.taken);
  }

-- The worlds that the states are played as

pub record Follows (s : State) (w : World) : Type 0 where
  pub lobby : w.lobby ≡ shown s
  pub settled : (c : ℕ) → IsSettled (input w c)

is_there : (s : State) (w : World) → Follows s w → (c : ℕ) → is_some (at_number s.clients c) ≡ true → is_open w c ≡ true
is_there s w f c there =
    ap (λ (t : State). is_some (at_number t.clients c)) f.lobby ∙ there_homed s.clients c ∙ there

abbrev here : State → Event → Event
here s e = played s.accounts true (bytes_taken s e) e

step_on : (s : State) → Sound s → (w : World) → Follows s w → (e : Event) (events : List Event) (mid : World)
    → events ≡ here s e ∷ [] → mid ≡ moved w events → Follows (next s e) mid
step_on s sound w f e events mid told is =
    subst (Follows (next s e)) (sym (is ∙ ap (moved w) told)) (record {
      lobby = ap (λ t. next t (here s e)) f.lobby ∙ next_same s sound e;
      settled = f.settled;
    })

-- an input that is written
module _ (w : World) (c : ℕ) (x : Input) where
  input_here : input_of (at_number (put_number w.inputs c x) c) ≡ x
  input_here =
      ap input_of (find-put nat_cmp nat_cmp_total c c x w.inputs
      ∙ ap (λ b. cond b (Some x) (at_number w.inputs c)) (same_itself c))

  input_there : (q : ℕ) → same_number q c ≡ false → input_of (at_number (put_number w.inputs c x) q) ≡ input w q
  input_there q other =
      ap input_of (find-put nat_cmp nat_cmp_total q c x w.inputs
      ∙ ap (λ b. cond b (Some x) (at_number w.inputs q)) other)

  all_settled : IsSettled x → ((q : ℕ) → same_number q c ≡ false → IsSettled (input w q))
      → (q : ℕ) → IsSettled (input_of (at_number (put_number w.inputs c x) q))
  all_settled this others q =
      subst (λ o. IsSettled (input_of o)) (sym (find-put nat_cmp nat_cmp_total q c x w.inputs))
      (elim (same_number q c) as (λ b. same_number q c ≡ b → IsSettled (input_of (cond b (Some x) (at_number w.inputs q)))) [
        | true ↦ λ e. this
        | false ↦ λ e. others q e
      ] refl)

-- a line came and is taken
module _ (s : State) (w : World) (f : Follows s w) (c : ℕ) (line : List ℕ) (plain : IsPlainLine line_limit line) where
  abbrev arrived : World
  arrived = with_bytes w c (line ++ 10 ∷ [])

  input_is : input arrived c ≡ one_more (input w c) line
  input_is = input_here w c (one_more (input w c) line)

  line_is : slice_get (frames (input arrived c).bytes line_limit) (input arrived c).taken ≡ Some line
  line_is =
      ap (λ (given : Input). slice_get (frames given.bytes line_limit) given.taken) input_is
      ∙ next_is (input w c) (f.settled c) line plain

  taken_follows : Follows s (with_taken arrived c)
  taken_follows = record {
    lobby = f.lobby;
    settled = all_settled arrived c (record { bytes = (input arrived c).bytes; taken = (input arrived c).taken + 1 })
        (subst (λ (given : Input). IsSettled (record { bytes = given.bytes; taken = given.taken + 1 })) (sym input_is)
        (still_settled (input w c) (f.settled c) line plain))
        (λ q other. subst IsSettled (sym (input_there w c (one_more (input w c) line) q other)) (f.settled q));
  }

-- The events

id_kept : (id : Option ℕ) → IfSome id (λ i. i ≤ id_limit) → is_id id ≡ true
id_kept None h = refl
id_kept (Some i) h = le-leb i id_limit h

-- one event, whose step gives it alone, and then the others
ends_so : (events first later all : List Event) (e : Event) → events ≡ first ++ later → first ≡ e ∷ [] → later ≡ all
    → events ≡ e ∷ all
ends_so events first later all e whole told rest =
    whole ∙ ap (λ (es : List Event). es ++ later) told ∙ ap (λ (es : List Event). e ∷ es) rest

pub replayed : (history : List Event) (s : State) → Sound s → (w : World) → Follows s w → AllHappen s history
    → (steps : List said.Step) → AreAllSteps s history steps → (events : List Event) (new : World)
    → Gives w (schedule_of steps) events new → events ≡ played_from s history
replayed [] s sound w f happen steps are events new gives =
    let g : Gives w [] events new = subst (λ x. Gives w (schedule_of x) events new) are gives in g.0
replayed (event.Open ip home ∷ history) s sound w f happen steps are events new gives =
    let e = event.Open ip home in
    let is = are.4 ∙ ap (λ (x : List said.Step). x ++ are.1) are.2 in
    let g = subst (λ x. Gives w (schedule_of x) events new) is gives in
    let free : has_place w.lobby ≡ true = ap has_place f.lobby ∙ place_same s ∙ happen.0 in
    let told : g.0 ≡ here s e ∷ [] = g.3.0 ∙ ap (λ b. if b then here s e ∷ [] else []) free in
    ends_so events g.0 g.1 (played_from (next s e) history) (here s e) g.5 told
    (replayed history (next s e) (next_keeps s e sound) g.2 (step_on s sound w f e g.0 g.2 told g.3.1) happen.1 are.1 are.3
    g.1 new g.4)
replayed (event.Say c request ∷ history) s sound w f happen steps are events new gives =
    let e = event.Say c request in
    let text = are.2.1 in
    let line = text.line in
    let is = are.4 ∙ ap (λ (x : List said.Step). x ++ are.1)
    (are.2.2 ∙ ap (λ t. said.Send c t ∷ said.Take c ∷ []) text.whole) in
    let g = subst (λ x. Gives w (schedule_of x) events new) is gives in
    let open_there = is_there s w f c happen.0.0 in
    let id = id_kept request.id (request_id_keeps happen.0.1.0 request happen.0.1.1) in
    let kinds = masked_keeps s.accounts true request.command (request_keeps happen.0.1.0 request happen.0.1.1) in
    let plain = text.plain id kinds in
    let came : g.2 ≡ with_bytes w c (line ++ 10 ∷ []) =
    g.3.1 ∙ ap (λ b. if b then with_bytes w c (line ++ 10 ∷ []) else w) open_there in
    let t = subst (λ v. Gives v (step.Take c ∷ schedule_of are.1) g.1 new) came g.4 in
    let mid = with_bytes w c (line ++ 10 ∷ []) in
    let takes : TakeGives mid c (slice_get (frames (input mid c).bytes line_limit) (input mid c).taken) t.0 t.2 =
    subst (λ b. MatchBool b (TakeGives mid c (slice_get (frames (input mid c).bytes line_limit) (input mid c).taken) t.0 t.2)
    ((t.0 ≡ []) × (t.2 ≡ mid))) open_there t.3 in
    let took : TakeGives mid c (Some line) t.0 t.2 =
    subst (λ o. TakeGives mid c o t.0 t.2) (line_is s w f c line plain) takes in
    let same : took.0 ≡ masked s.accounts true request =
    request_only line took.0 took.1 ∙ sym (request_only line (masked s.accounts true request) (text.reads id kinds)) in
    let told : t.0 ≡ here s e ∷ [] = took.2 ∙ ap (λ r. event.Say c r ∷ []) same in
    let whole : events ≡ t.0 ++ t.1 = g.5 ∙ ap (λ (es : List Event). es ++ g.1) g.3.0 ∙ t.5 in
    ends_so events t.0 t.1 (played_from (next s e) history) (here s e) whole told
    (replayed history (next s e) (next_keeps s e sound) t.2
    (step_on s sound (with_taken mid c) (taken_follows s w f c line plain) e t.0 t.2 told took.3) happen.1 are.1 are.3 t.1 new t.4)
replayed (event.Drain c n ∷ history) s sound w f happen steps are events new gives =
    let e = event.Drain c n in
    let is = are.4 ∙ ap (λ (x : List said.Step). x ++ are.1) are.2 in
    let g = subst (λ x. Gives w (schedule_of x) events new) is gives in
    let told : g.0 ≡ here s e ∷ [] =
    g.3.0 ∙ ap (λ b. if b then here s e ∷ [] else []) (is_there s w f c happen.0) in
    ends_so events g.0 g.1 (played_from (next s e) history) (here s e) g.5 told
    (replayed history (next s e) (next_keeps s e sound) g.2 (step_on s sound w f e g.0 g.2 told g.3.1) happen.1 are.1 are.3
    g.1 new g.4)
replayed (event.Shut c ∷ history) s sound w f happen steps are events new gives =
    let e = event.Shut c in
    let is = are.4 ∙ ap (λ (x : List said.Step). x ++ are.1) are.2 in
    let g = subst (λ x. Gives w (schedule_of x) events new) is gives in
    let told : g.0 ≡ here s e ∷ [] =
    g.3.0 ∙ ap (λ b. if b then here s e ∷ [] else []) (is_there s w f c happen.0) in
    ends_so events g.0 g.1 (played_from (next s e) history) (here s e) g.5 told
    (replayed history (next s e) (next_keeps s e sound) g.2 (step_on s sound w f e g.0 g.2 told g.3.1) happen.1 are.1 are.3
    g.1 new g.4)

-- nothing came yet
pub begins : (s : State) (w : World) → w.lobby ≡ shown s → w.inputs ≡ [] → Follows s w
begins s w lobby none = record {
  lobby = lobby;
  settled = λ c. subst (λ inputs. IsSettled (input_of (at_number inputs c))) (sym none)
      (record { sound = refl; over = refl; taken = refl });
}
