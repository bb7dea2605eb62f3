-- How a turn is put together.
use Rattle.std.proofs.Common.{◌≡◌, ◌⊎◌, ◌≢◌, ℕ, ◌+◌, ◌-◌, ◌*◌, ◌<◌, ◌≤◌, true, false, List, [], ◌∷◌, ◌++◌, length, refl, sym, ap, ◌∙◌, subst, inl, inr, arith, append-nil, length-append, true≢false}
use Rattle.std.proofs.Math.Bool.{or-false}
use Rattle.std.specs.Prelude.{◌||◌, Option, Some}
use Rattle.lobby_model.specs.declared.event.Event.{Event}
use Rattle.lobby_model.specs.declared.event.Event.TheVariants as event
use Rattle.lobby_model.specs.State.{State}
use Rattle.lobby_model.specs.Touched.{touches}
use Rattle.lobby_post.specs.Mask.{has_home}
use Rattle.client_session.specs.Serving.{Serving}
use Rattle.client_session.specs.declared.session.Next.TheVariants.{Nothing, Spoilt}
use Rattle.client_session.specs.OneSession.{IsNextOf, HasLineNext}
use Rattle.lobby_holds.specs.declared.link.Got.{Got}
use Rattle.lobby_holds.specs.declared.link.Got.TheVariants as got
use Rattle.lobby_turns.specs.declared.receiving.ReceiveState.{ReceiveState}
use Rattle.lobby_turns.specs.declared.receiving.ReceiveState.TheVariants as receive
use Rattle.lobby_turns.specs.declared.sending.SendState.{SendState}
use Rattle.lobby_turns.specs.declared.sending.SendState.TheVariants as send
use Rattle.lobby_holds.specs.declared.turn.TurnState.{TurnState}
use Rattle.lobby_holds.specs.declared.turn.TurnState.TheVariants as state
use Rattle.lobby_machine.specs.Work.{counted_on, told_on, work}
use Rattle.lobby_holds.specs.Moments.{Moment, moment, requests, questions, touched, told_end, work_of}
use Rattle.lobby_holds.specs.Wire.{Wire, ReadsBytes, ReadsSome}
use Rattle.lobby_holds.specs.Snapshot.{Snapshot}
use Rattle.lobby_holds.specs.Talk.{AreTalk, AreDrains, EndsDry, IsDrain}
use Rattle.lobby_holds.proofs.Counted.{told_behind_is, work_of-append}
use Rattle.lobby_turns.proofs.Receivings.{Adds, both_told}
use Rattle.lobby_turns.specs.Receiving.{CountsTold, Share, OnlyReads, IsAllReceived, HasToReceive, has_bytes, has_line, has_more, IsOver, NoReadFailed, IsMost, most_lines, most_reads, most_bytes, most_told, ReceivesMost, ReceivedIs, Receives}
use Rattle.lobby_turns.specs.Sending.{OnlyWrites, IsSound, IsStop, IsWrittenOut, all_written, stopped, spent, IsAllSent, MustWait, SendsMost, SentIs, Sends}
use Rattle.lobby_holds.specs.Went.{Went}
use Rattle.lobby_holds.specs.Holds.{Made, HasNoSpoiltNext, HasLoudNext}
use Rattle.lobby_turns.specs.Turned.{GoesOn, MayShut, spoilt, unread, unsent, finished, ended, HasReceived, received_all, received_most, HasSent, sent_all, put_off, sent_most, IsIdle, IsAtLimit, of_receiving, of_sending, IsShort, to_receive, to_drain, to_go_on, to_shut, IsAsked, Ends, Turned, ClosesTo}
use Rattle.lobby_holds.proofs.Nexts.{line_is_sound, nothing_is_sound}
use Rattle.lobby_holds.proofs.Parts.{requests-append, questions-append, went_then}
use Rattle.lobby_holds.proofs.Talks.{only_requests, are_talk-append, drains_are_talk, drains_ask, touched-append, touched_drained, calm-append, finished-append, dry_behind}

-- what came from a client was received, and then what is for it was sent
pub record Served (a b c : Snapshot) (share : Share) (how : ReceiveState) (far : SendState) (wakes : ℕ) : Type 0 where
  pub receives : Receives a b share how wakes
  pub sends : Sends b c far

talk_of : (a b c : Snapshot) (share : Share) (how : ReceiveState) (far : SendState) (wakes : ℕ) → Served a b c share how far wakes → List Moment
talk_of a b c share how far wakes s = s.receives.talk ++ s.sends.talk

went_both : (a b c : Snapshot) (share : Share) (how : ReceiveState) (far : SendState) (wakes : ℕ) → (s : Served a b c share how far wakes) → Went a c (s.receives.talk ++ s.sends.talk)
went_both a b c share how far wakes s = went_then a b c s.receives.talk s.sends.talk s.receives.went s.sends.went

own_both : (a b c : Snapshot) (share : Share) (how : ReceiveState) (far : SendState) (wakes : ℕ) → (s : Served a b c share how far wakes) → AreTalk c.conn.session.client (s.receives.talk ++ s.sends.talk)
own_both a b c share how far wakes s =
    let u : List Moment = s.sends.talk in
    let same : c.conn.session.client ≡ a.conn.session.client = s.sends.went.client ∙ s.receives.went.client in
    are_talk-append c.conn.session.client s.receives.talk u
    (subst (λ (x : ℕ). AreTalk x s.receives.talk) (sym same) s.receives.own)
    (drains_are_talk c.conn.session.client u (subst (λ (x : ℕ). AreDrains x u) (sym s.sends.went.client) s.sends.own))

lines_both : (a b c : Snapshot) (share : Share) (how : ReceiveState) (far : SendState) (wakes : ℕ) → (s : Served a b c share how far wakes) → requests (s.receives.talk ++ s.sends.talk) ≡ requests s.receives.talk
lines_both a b c share how far wakes s =
    requests-append s.receives.talk s.sends.talk ∙ ap (λ l. requests s.receives.talk ++ l) (drains_ask b.conn.session.client s.sends.talk s.sends.own) ∙ append-nil (requests s.receives.talk)

drains_both : (a b c : Snapshot) (share : Share) (how : ReceiveState) (far : SendState) (wakes : ℕ) → (s : Served a b c share how far wakes)
    → length (s.receives.talk ++ s.sends.talk) ≤ length (requests (s.receives.talk ++ s.sends.talk)) + 136
drains_both a b c share how far wakes s =
    omega (arith, length-append s.receives.talk s.sends.talk, s.receives.only_lines, s.sends.drains, ap length (lines_both a b c share how far wakes s))

-- who only says lines asks nothing
unasked_both : (a b c : Snapshot) (share : Share) (how : ReceiveState) (far : SendState) (wakes : ℕ) → (s : Served a b c share how far wakes) → questions (s.receives.talk ++ s.sends.talk) ≡ questions s.sends.talk
unasked_both a b c share how far wakes s =
    questions-append s.receives.talk s.sends.talk ∙ ap (λ l. l ++ questions s.sends.talk) (only_requests s.receives.talk s.receives.only_lines)

once_both : (a b c : Snapshot) (share : Share) (how : ReceiveState) (far : SendState) (wakes : ℕ) → (s : Served a b c share how far wakes) → length (questions (s.receives.talk ++ s.sends.talk)) ≤ 1
once_both a b c share how far wakes s = omega (arith, ap length (unasked_both a b c share how far wakes s), s.sends.asks.once)

never_both : (a b c : Snapshot) (share : Share) (how : ReceiveState) (far : SendState) (wakes : ℕ) → (s : Served a b c share how far wakes) → a.conn.unwritten ≡ [] → questions (s.receives.talk ++ s.sends.talk) ≡ []
never_both a b c share how far wakes s written = unasked_both a b c share how far wakes s ∙ s.sends.asks.written (s.receives.only.unwritten ∙ written)

reads_both : (a b c : Snapshot) (share : Share) (how : ReceiveState) (far : SendState) (wakes : ℕ) → Served a b c share how far wakes → c.wire.reads ≤ a.wire.reads + 16
reads_both a b c share how far wakes s = omega (arith, s.receives.only.reads_are, s.receives.few, s.sends.only.reads)

pieces_both : (a b c : Snapshot) (share : Share) (how : ReceiveState) (far : SendState) (wakes : ℕ) → Served a b c share how far wakes → ReadsSome a.wire c.wire 65536
pieces_both a b c share how far wakes s =
    let h : ReadsBytes a.wire b.wire s.receives.bytes = s.receives.only.bytes_are in
    record { more = h.more; read = s.sends.only.read ∙ h.read; few = omega (arith, h.bytes_are, s.receives.few_bytes) }

at_once_both : (a b c : Snapshot) (share : Share) (how : ReceiveState) (far : SendState) (wakes : ℕ) → Served a b c share how far wakes → ReadsSome a.wire c.wire (16384 * (c.wire.reads - a.wire.reads))
at_once_both a b c share how far wakes s =
    let only : OnlyReads a b s.receives.reads s.receives.bytes = s.receives.only in
    let reads_are : c.wire.reads - a.wire.reads ≡ s.receives.reads = omega (arith, only.reads_are, s.sends.only.reads) in
    record { more = only.bytes_are.more; read = s.sends.only.read ∙ only.bytes_are.read; few = omega (arith, only.bytes_are.bytes_are, only.at_once, reads_are) }

ended_both : (a b c : Snapshot) (share : Share) (how : ReceiveState) (far : SendState) (wakes : ℕ) → Served a b c share how far wakes → a.wire.last_got ≡ Some got.End → c.wire.reads ≡ a.wire.reads
ended_both a b c share how far wakes s end = omega (arith, s.receives.only.reads_are, s.receives.after_end end, s.sends.only.reads)

writes_both : (a b c : Snapshot) (share : Share) (how : ReceiveState) (far : SendState) (wakes : ℕ) → Served a b c share how far wakes → c.wire.writes ≤ a.wire.writes + 16
writes_both a b c share how far wakes s = omega (arith, s.receives.only.writes, s.sends.only.writes_are, s.sends.few)

-- ---- why a client is shut

all_received : (a b : Snapshot) (share : Share) (talk : List Moment) (how : ReceiveState) → how ≡ receive.All → ReceivedIs a b share talk how → IsAllReceived a b
all_received a b share talk how e h = (subst (λ (x : ReceiveState). ReceivedIs a b share talk x) e h).1

all_sent : (b c : Snapshot) (talk : List Moment) (far : SendState) → far ≡ send.All → SentIs b c talk far → IsAllSent c talk
all_sent b c talk far e h = (subst (λ (x : SendState). SentIs b c talk x) e h).1

-- whether a drain said that nothing will come, by how far it was sent
finished_or_not : (b c : Snapshot) (talk : List Moment) (far : SendState) → SentIs b c talk far → ((told_end talk ≡ true) × IsWrittenOut b c 16) ⊎ (told_end talk ≡ false)
finished_or_not b c talk send.All h = inr h.0.calm
finished_or_not b c talk send.WouldBlock h = inr h.0.calm
finished_or_not b c talk send.Again h = inr h.0.calm
finished_or_not b c talk send.Finished h = inl h
finished_or_not b c talk send.Fault h = inr h.0
finished_or_not b c talk send.Memory h = inr h.0.calm

abbrev pub MustShut : Snapshot → ReceiveState → SendState → Type 0
MustShut c how far = (far ≡ send.Finished) ⊎ ((far ≡ send.Fault) ⊎ ((how ≡ receive.Stop) ⊎ ((how ≡ receive.All) × (far ≡ send.All) × (c.wire.last_got ≡ Some got.End))))

-- receiving writes nothing
out_before : (a b c : Snapshot) → b.wire.writes ≡ a.wire.writes → IsWrittenOut b c 16 → IsWrittenOut a c 16
out_before a b c same (all_written e) = all_written e
out_before a b c same (stopped made stop) = stopped (omega (arith, made, same)) stop
out_before a b c same (spent e) = spent (omega (arith, e, same))

over : (a b c : Snapshot) (talk : List Moment) → told_end talk ≡ false → c.conn.session ≡ b.conn.session → c.wire.last_got ≡ b.wire.last_got → IsOver b → MayShut a c talk
over a b c talk calm session last (inl next) = spoilt calm (subst (λ (x : Serving). IsNextOf (Some x) Spoilt) (sym session) next)
over a b c talk calm session last (inr fault) = unread calm (last ∙ fault)

-- where no drain said that nothing will come
shut_else : (a b c : Snapshot) (share : Share) (how : ReceiveState) (far : SendState) (wakes : ℕ) → (s : Served a b c share how far wakes) → told_end (s.receives.talk ++ s.sends.talk) ≡ false
    → ((told_end s.sends.talk ≡ true) → ⊥) → MustShut c how far → MayShut a c (s.receives.talk ++ s.sends.talk)
shut_else a b c share how far wakes s calm goes_on (inl e) = absurd (goes_on (subst (λ (x : SendState). SentIs b c s.sends.talk x) e s.sends.sent_is).0)
shut_else a b c share how far wakes s calm goes_on (inr (inl e)) = unsent calm (subst (λ (x : SendState). SentIs b c s.sends.talk x) e s.sends.sent_is).1
shut_else a b c share how far wakes s calm goes_on (inr (inr (inl e))) =
    over a b c (s.receives.talk ++ s.sends.talk) calm s.sends.only.session s.sends.only.last_got (subst (λ (x : ReceiveState). ReceivedIs a b share s.receives.talk x) e s.receives.received_is)
shut_else a b c share how far wakes s calm goes_on (inr (inr (inr e))) =
    let h : IsAllReceived a b = all_received a b share s.receives.talk how e.0 s.receives.received_is in
    let t : IsAllSent c s.sends.talk = all_sent b c s.sends.talk far e.1 s.sends.sent_is in
    ended calm
    (record { fed = s.sends.only.unfed ∙ h.fed; nothing = subst (λ (x : Serving). IsNextOf (Some x) Nothing) (sym s.sends.only.session) h.nothing; last = e.2 })
    (record { written = t.written; dry = dry_behind c.conn.session.client s.receives.talk s.sends.talk t.dry })

may_shut : (a b c : Snapshot) (share : Share) (how : ReceiveState) (far : SendState) (wakes : ℕ) → (s : Served a b c share how far wakes) → MustShut c how far → MayShut a c (s.receives.talk ++ s.sends.talk)
may_shut a b c share how far wakes s must = by_drains (finished_or_not b c s.sends.talk far s.sends.sent_is)
  where
    by_drains : ((told_end s.sends.talk ≡ true) × IsWrittenOut b c 16) ⊎ (told_end s.sends.talk ≡ false) → MayShut a c (s.receives.talk ++ s.sends.talk)
    by_drains (inl e) = finished (finished-append s.receives.talk s.sends.talk e.0) (out_before a b c s.receives.only.writes e.1)
    by_drains (inr calm) = shut_else a b c share how far wakes s (calm-append s.receives.talk s.sends.talk s.receives.calm calm) (λ told. true≢false (sym told ∙ calm)) must

-- ---- a turn that shuts nobody

-- neither half saw a reason to shut the client
abbrev pub MayGo : ReceiveState → SendState → Type 0
MayGo how far = (how ≢ receive.Stop) × (far ≢ send.Finished) × (far ≢ send.Fault)

abbrev pub MayRest : Snapshot → ReceiveState → SendState → TurnState → Type 0
MayRest c how far state.Idle = (how ≡ receive.All) × ((far ≡ send.WouldBlock) ⊎ ((far ≡ send.All) × (c.wire.last_got ≢ Some got.End)))
MayRest c how far state.Again = ((how ≡ receive.Again) ⊎ (far ≡ send.Again)) × (how ≢ receive.Memory) × (far ≢ send.Memory)
MayRest c how far state.Closed = ⊥
MayRest c how far state.Memory = (how ≡ receive.Memory) ⊎ (far ≡ send.Memory)

still_received : (a b c : Snapshot) → b.wire.reads ≡ c.wire.reads → c.wire.last_got ≡ b.wire.last_got
    → (b.wire.last_got ≡ Some got.End) ⊎ ((b.wire.last_got ≡ Some got.Later) × (a.wire.reads < b.wire.reads))
    → (c.wire.last_got ≡ Some got.End) ⊎ ((c.wire.last_got ≡ Some got.Later) × (a.wire.reads < c.wire.reads))
still_received a b c reads last (inl end) = inl (last ∙ end)
still_received a b c reads last (inr later) = inr (last ∙ later.0, subst (λ (n : ℕ). a.wire.reads < n) reads later.1)

-- sending reads nothing
left_to_receive : (a b c : Snapshot) → c.conn.session ≡ b.conn.session → c.conn.unfed ≡ b.conn.unfed → c.wire.last_got ≡ b.wire.last_got → c.wire.reads ≡ b.wire.reads → HasToReceive a b → HasToReceive a c
left_to_receive a b c session unfed last reads (has_bytes some unspoilt) = has_bytes (λ e. some (sym unfed ∙ e)) (subst HasNoSpoiltNext (sym session) unspoilt)
left_to_receive a b c session unfed last reads (has_line h) = has_line (subst HasLineNext (sym session) h)
left_to_receive a b c session unfed last reads (has_more h) =
    has_more (record { fed = unfed ∙ h.fed; nothing = subst (λ (x : Serving). IsNextOf (Some x) Nothing) (sym session) h.nothing; on = λ e. h.on (sym last ∙ e); sound = λ e. h.sound (sym last ∙ e); late = λ e. reads ∙ h.late (sym last ∙ e) })

sound_received : (a b : Snapshot) (share : Share) (talk : List Moment) (how : ReceiveState) → how ≢ receive.Stop → ReceivedIs a b share talk how → NoReadFailed a b
sound_received a b share talk receive.All on h = h.0
sound_received a b share talk receive.Again on h = h.0
sound_received a b share talk receive.Stop on h = absurd (on refl)
sound_received a b share talk receive.Memory on h = h.0

-- nor is a spoilt place next
left_unspoilt : (a b : Snapshot) → HasToReceive a b → HasNoSpoiltNext b.conn.session
left_unspoilt a b (has_bytes some unspoilt) = unspoilt
left_unspoilt a b (has_line h) = line_is_sound b.conn.session h
left_unspoilt a b (has_more h) = nothing_is_sound b.conn.session h.nothing

unspoilt_received : (a b : Snapshot) (share : Share) (talk : List Moment) (how : ReceiveState) → how ≢ receive.Stop → ReceivedIs a b share talk how → HasNoSpoiltNext b.conn.session
unspoilt_received a b share talk receive.All on h = nothing_is_sound b.conn.session h.1.nothing
unspoilt_received a b share talk receive.Again on h = h.1.unspoilt
unspoilt_received a b share talk receive.Stop on h = absurd (on refl)
unspoilt_received a b share talk receive.Memory on h = left_unspoilt a b h.1

sound_sent : (b c : Snapshot) (talk : List Moment) (far : SendState) → far ≢ send.Finished → far ≢ send.Fault → SentIs b c talk far → IsSound b c talk
sound_sent b c talk send.All on sound h = h.0
sound_sent b c talk send.WouldBlock on sound h = h.0
sound_sent b c talk send.Again on sound h = h.0
sound_sent b c talk send.Finished on sound h = absurd (on refl)
sound_sent b c talk send.Fault on sound h = absurd (sound refl)
sound_sent b c talk send.Memory on sound h = h.0

some_behind : (t u : List Moment) → t ≢ [] → t ++ u ≢ []
some_behind [] u some = λ e. some refl
some_behind (m ∷ t) u some = λ e. absurd (cc (e))

-- drains are no work
drain_work : (c : ℕ) (s : State) (e : Event) → IsDrain c e → work s e ≡ 0
drain_work c s (event.Drain d n) own = refl
drain_work c s (event.Say d request) own = absurd own
drain_work c s (event.Open ip home) own = absurd own
drain_work c s (event.Shut d) own = absurd own

drains_work : (c : ℕ) (u : List Moment) → AreDrains c u → work_of u ≡ 0
drains_work c [] own = refl
drains_work c (m ∷ u) own = let here = drain_work c m.met m.event own.0 in let rest = drains_work c u own.1 in omega (arith, here, rest)

module _ (a b c : Snapshot) (share : Share) (how : ReceiveState) (far : SendState) (wakes : ℕ) (s : Served a b c share how far wakes) where
  abbrev spoken : List Moment
  spoken = s.receives.talk ++ s.sends.talk

  goes_on : MayGo how far → GoesOn a c spoken
  goes_on on =
      let sound : IsSound b c s.sends.talk = sound_sent b c s.sends.talk far on.1 on.2 s.sends.sent_is in
      let read : NoReadFailed a b = sound_received a b share s.receives.talk how on.0 s.receives.received_is in
      record {
        calm = calm-append s.receives.talk s.sends.talk s.receives.calm sound.calm;
        unspoilt = subst HasNoSpoiltNext (sym s.sends.only.session) (unspoilt_received a b share s.receives.talk how on.0 s.receives.received_is);
        read = λ rose failed. read (omega (arith, rose, s.sends.only.reads)) (sym s.sends.only.last_got ∙ failed);
        written = λ rose. sound.no_fault (omega (arith, rose, s.receives.only.writes));
      }

  received : how ≡ receive.All → IsAllReceived a c
  received e =
      let h : IsAllReceived a b = all_received a b share s.receives.talk how e s.receives.received_is in
      record {
        fed = s.sends.only.unfed ∙ h.fed;
        nothing = subst (λ (x : Serving). IsNextOf (Some x) Nothing) (sym s.sends.only.session) h.nothing;
        last = still_received a b c (sym s.sends.only.reads) s.sends.only.last_got h.last;
      }

  said_since : (s.receives.talk ≢ []) ⊎ (share.allowance ≡ Some 0) → (spoken ≢ []) ⊎ (share.allowance ≡ Some 0)
  said_since (inl said) = inl (some_behind s.receives.talk s.sends.talk said)
  said_since (inr none) = inr none

  limit_since : IsMost a b share s.receives.talk → IsMost a c share spoken
  limit_since (most_lines lines) = most_lines (ap length (lines_both a b c share how far wakes s) ∙ lines)
  limit_since (most_reads reads) = most_reads (s.sends.only.reads ∙ reads)
  limit_since (most_bytes four bytes) = most_bytes (omega (arith, four, s.sends.only.reads)) (record { more = bytes.more; read = s.sends.only.read ∙ bytes.read; bytes_are = bytes.bytes_are })
  limit_since (most_told spends next) = most_told (record { met = spends.met; said = said_since spends.said }) (subst HasLoudNext (sym s.sends.only.session) next)

  most_since : ReceivesMost a b share s.receives.talk → ReceivesMost a c share spoken
  most_since h = record { limit = limit_since h.limit; fed = s.sends.only.unfed ∙ h.fed; unspoilt = subst HasNoSpoiltNext (sym s.sends.only.session) h.unspoilt }

  most : how ≡ receive.Again → ReceivesMost a c share spoken
  most e = most_since (subst (λ (x : ReceiveState). ReceivedIs a b share s.receives.talk x) e s.receives.received_is).1

  refused : how ≡ receive.Memory → HasToReceive a c
  refused e =
      let only : OnlyWrites b c s.sends.writes = s.sends.only in
      left_to_receive a b c only.session only.unfed only.last_got only.reads (subst (λ (x : ReceiveState). ReceivedIs a b share s.receives.talk x) e s.receives.received_is).1

  so_far : (x : ReceiveState) → how ≡ x → x ≢ receive.Stop → x ≢ receive.Memory → HasReceived a c share spoken
  so_far receive.All e on fits = received_all (received e)
  so_far receive.Again e on fits = received_most (most e)
  so_far receive.Stop e on fits = absurd (on refl)
  so_far receive.Memory e on fits = absurd (fits refl)

  waits : far ≡ send.WouldBlock → MustWait a c
  waits e =
      let must : MustWait b c = (subst (λ (x : SendState). SentIs b c s.sends.talk x) e s.sends.sent_is).1 in
      record { last = must.last; made = subst (λ (n : ℕ). n < c.wire.writes) s.receives.only.writes must.made }

  sent_to : far ≡ send.All → IsAllSent c spoken
  sent_to e =
      let all : IsAllSent c s.sends.talk = all_sent b c s.sends.talk far e s.sends.sent_is in
      record { written = all.written; dry = dry_behind c.conn.session.client s.receives.talk s.sends.talk all.dry }

  wrote_most : far ≡ send.Again → SendsMost a c
  wrote_most e = (subst (λ (x : SendState). SentIs b c s.sends.talk x) e s.sends.sent_is).1 ∙ ap (λ n. n + 16) s.receives.only.writes

  nothing_left : far ≡ send.Memory → c.conn.unwritten ≡ []
  nothing_left e = (subst (λ (x : SendState). SentIs b c s.sends.talk x) e s.sends.sent_is).1

  sent_so_far : (x : SendState) → far ≡ x → x ≢ send.Finished → x ≢ send.Fault → HasSent a c spoken ⊎ (c.conn.unwritten ≡ [])
  sent_so_far send.All e on sound = inl (sent_all (sent_to e))
  sent_so_far send.WouldBlock e on sound = inl (put_off (waits e))
  sent_so_far send.Again e on sound = inl (sent_most (wrote_most e))
  sent_so_far send.Finished e on sound = absurd (on refl)
  sent_so_far send.Fault e on sound = absurd (sound refl)
  sent_so_far send.Memory e on sound = inr (nothing_left e)

  has_sent : (x : SendState) → far ≡ x → x ≢ send.Finished → x ≢ send.Fault → x ≢ send.Memory → HasSent a c spoken
  has_sent send.All e on sound fits = sent_all (sent_to e)
  has_sent send.WouldBlock e on sound fits = put_off (waits e)
  has_sent send.Again e on sound fits = sent_most (wrote_most e)
  has_sent send.Finished e on sound fits = absurd (on refl)
  has_sent send.Fault e on sound fits = absurd (sound refl)
  has_sent send.Memory e on sound fits = absurd (fits refl)

  idle : MayRest c how far state.Idle → IsIdle a c spoken
  idle rest = record { received = received rest.0; sent = quiet rest.1 }
    where
      quiet : (far ≡ send.WouldBlock) ⊎ ((far ≡ send.All) × (c.wire.last_got ≢ Some got.End)) → MustWait a c ⊎ (IsAllSent c spoken × (c.wire.last_got ≢ Some got.End))
      quiet (inl e) = inl (waits e)
      quiet (inr e) = inr (sent_to e.0, e.1)

  -- a half came to its limit, and the other one did not fail
  limit : HasReceived a c share spoken → HasSent a c spoken → (how ≡ receive.Again) ⊎ (far ≡ send.Again) → IsAtLimit a c share spoken
  limit before behind (inl e) = of_receiving (most e) behind
  limit (received_all all) behind (inr e) = of_sending all (wrote_most e)
  limit (received_most reached) behind (inr e) = of_receiving reached behind

  at_limit : MayGo how far → MayRest c how far state.Again → IsAtLimit a c share spoken
  at_limit on rest = limit (so_far how refl on.0 rest.1) (has_sent far refl on.1 on.2 rest.2) rest.0

  -- receiving was refused memory, or it was not
  short : MayGo how far → (x : ReceiveState) → how ≡ x → (how ≡ receive.Memory) ⊎ (far ≡ send.Memory) → IsShort a c share spoken
  short on receive.Memory e rest = to_receive (refused e) (sent_so_far far refl on.1 on.2)
  short on receive.All e (inr none) = to_drain (received_all (received e)) (nothing_left none)
  short on receive.Again e (inr none) = to_drain (received_most (most e)) (nothing_left none)
  short on receive.Stop e rest = absurd (on.0 e)
  short on receive.All e (inl f) = absurd (cc (e, f))
  short on receive.Again e (inl f) = absurd (cc (e, f))

  rests : (x : TurnState) → MayGo how far → MayRest c how far x → Ends a c share spoken [] x
  rests state.Idle on rest = (refl, goes_on on, idle rest)
  rests state.Again on rest = (refl, goes_on on, at_limit on rest)
  rests state.Closed on rest = absurd rest
  rests state.Memory on rest = (refl, to_go_on (goes_on on) (short on how refl rest))

  -- what waits to be written is what waited before the turn
  asked : a.conn.unwritten ≢ [] → IsAsked c.conn.session.client spoken
  asked waiting =
      let first = s.sends.asks.waiting (λ none. waiting (sym s.receives.only.unwritten ∙ none)) in
      let same : b.conn.session.client ≡ c.conn.session.client = sym s.sends.went.client in
      subst (λ (d : ℕ). IsAsked d spoken) same
      (s.receives.talk, first.0, first.1, ap (λ l. s.receives.talk ++ l) first.2, (subst (λ (l : List Moment). AreDrains b.conn.session.client l) first.2 s.sends.own).1)

-- what the lines of a turn told, with what is drained behind them
counts_both : (c told : ℕ) (t u : List Moment) → AreDrains c u → CountsTold told t → CountsTold told (t ++ u)
counts_both c told t u own counts small =
    let whole : work_of (t ++ u) ≡ work_of t + work_of u = work_of-append t u in
    let none : work_of u ≡ 0 = drains_work c u own in
    let is : told ≡ work_of t = counts (omega (arith, whole, none, small)) in
    omega (arith, whole, none, is)

pub turned_open : (a b c : Snapshot) (share : Share) (how : ReceiveState) (far : SendState) (wakes : ℕ) (x : TurnState) → Receives a b share how wakes → Sends b c far → MayGo how far → MayRest c how far x
    → Turned a c share.allowance (record { state = x; wakes = wakes }) share.told
turned_open a b c share how far wakes x h t on rest =
    let counts : CountsTold share.told (h.talk ++ t.talk) = counts_both b.conn.session.client share.told h.talk t.talk t.own h.told_is in
    let s : Served a b c share how far wakes = record { receives = h; sends = t } in
    record {
      talk = h.talk ++ t.talk;
      end = [];
      went = subst (λ (l : List Moment). Went a c l) (sym (append-nil (h.talk ++ t.talk))) (went_both a b c share how far wakes s);
      own = own_both a b c share how far wakes s;
      asked = asked a b c share how far wakes s;
      unasked = never_both a b c share how far wakes s;
      once = once_both a b c share how far wakes s;
      share = share;
      allowed = refl;
      ends = rests a b c share how far wakes s x on rest;
      told_is = subst (λ (l : List Moment). CountsTold share.told l) (sym (append-nil (h.talk ++ t.talk))) counts;
      share_is = counts;
      lines = subst (λ (l : List _). length l ≤ 64) (sym (lines_both a b c share how far wakes s)) h.lines;
      drains = drains_both a b c share how far wakes s;
      reads = reads_both a b c share how far wakes s;
      pieces = pieces_both a b c share how far wakes s;
      at_once = at_once_both a b c share how far wakes s;
      after_end = ended_both a b c share how far wakes s;
      writes = writes_both a b c share how far wakes s;
      wakes_are = λ home.
          h.wakes_are home ∙ sym (touched_drained b.conn.session.client h.talk t.talk home t.own)
          ∙ ap (λ l. touched l home) (sym (append-nil (h.talk ++ t.talk)));
    }

-- ---- a turn that shuts its client

out_still : (a c d : Snapshot) → d.conn ≡ c.conn → d.wire ≡ c.wire → IsWrittenOut a c 16 → IsWrittenOut a d 16
out_still a c d conn wire (all_written e) = all_written (ap (λ x. x.unwritten) conn ∙ e)
out_still a c d conn wire (stopped made stop) = stopped (subst (λ (w : Wire). a.wire.writes < w.writes) (sym wire) made) (subst (λ (w : Wire). IsStop w.last_sent) (sym wire) stop)
out_still a c d conn wire (spent e) = spent (ap (λ w. w.writes) wire ∙ e)

moved_on : (a c d : Snapshot) (talk : List Moment) → d.conn ≡ c.conn → d.wire ≡ c.wire → MayShut a c talk → MayShut a d talk
moved_on a c d talk conn wire (spoilt calm next) = spoilt calm (subst (λ (x : Serving). IsNextOf (Some x) Spoilt) (ap (λ x. x.session) (sym conn)) next)
moved_on a c d talk conn wire (unread calm e) = unread calm (ap (λ w. w.last_got) wire ∙ e)
moved_on a c d talk conn wire (unsent calm e) = unsent calm (ap (λ w. w.last_sent) wire ∙ e)
moved_on a c d talk conn wire (finished e out) = finished e (out_still a c d conn wire out)
moved_on a c d talk conn wire (ended calm h t) =
    ended calm
    (record { fed = ap (λ x. x.unfed) conn ∙ h.fed; nothing = subst (λ (x : Serving). IsNextOf (Some x) Nothing) (ap (λ x. x.session) (sym conn)) h.nothing; last = ap (λ w. w.last_got) wire ∙ h.last })
    (record { written = ap (λ x. x.unwritten) conn ∙ t.written; dry = subst (λ (n : ℕ). EndsDry n talk) (ap (λ x. x.session.client) (sym conn)) t.dry })

one_more : (t : List Moment) (m : Moment) (home : ℕ) → touched (t ++ m ∷ []) home ≡ (touched t home || touches m.met m.event home)
one_more t m home = touched-append t (m ∷ []) home ∙ ap (λ b. touched t home || b) (or-false (touches m.met m.event home))

-- what the shut told besides; nothing where it was refused
counts_last : (told last all : ℕ) (t : List Moment) (m : Moment) → told_on 0 m.met m.event ≡ last → CountsTold told t → Adds told last all → CountsTold all (t ++ m ∷ [])
counts_last told last all t m is counts = both_told told last all t (m ∷ []) counts
    (λ small. let whole : last ≡ counted_on 0 (work_of (m ∷ [])) = sym is ∙ told_behind_is 0 (m ∷ []) (omega arith) in omega (arith, whole, small))

counts_still : (told last all : ℕ) (t : List Moment) → last ≡ 0 → CountsTold told t → Adds told last all → CountsTold all (t ++ [])
counts_still told last all t none counts adds = both_told told last all t [] counts (λ _. none) adds

pub turned_closed : (a b c d : Snapshot) (share : Share) (last told : ℕ) (how : ReceiveState) (far : SendState) (wakes more : ℕ) (x : TurnState) → Receives a b share how wakes → Sends b c far → MustShut c how far
    → d.conn ≡ c.conn → d.wire ≡ c.wire → ClosesTo c d wakes more last x → Adds share.told last told → Turned a d share.allowance (record { state = x; wakes = more }) told
turned_closed a b c d share last told how far wakes more state.Closed h t must conn wire closes adds =
    let counts : CountsTold share.told (h.talk ++ t.talk) = counts_both b.conn.session.client share.told h.talk t.talk t.own h.told_is in
    let s : Served a b c share how far wakes = record { receives = h; sends = t } in
    let talk : List Moment = h.talk ++ t.talk in
    let end : Moment = moment closes.0 (event.Shut c.conn.session.client) in
    record {
      talk = talk;
      end = end ∷ [];
      went = went_then a c d talk (end ∷ []) (went_both a b c share how far wakes s) closes.1;
      own = subst (λ (x : ℕ). AreTalk x talk) (sym closes.1.client) (own_both a b c share how far wakes s);
      asked = λ waiting. subst (λ (x : ℕ). IsAsked x talk) (sym closes.1.client) (asked a b c share how far wakes s waiting);
      unasked = never_both a b c share how far wakes s;
      once = once_both a b c share how far wakes s;
      share = share;
      allowed = refl;
      told_is = counts_last share.told last told talk end closes.3 counts adds;
      share_is = counts;
      ends = (closes.0, ap (λ x. moment closes.0 (event.Shut x) ∷ []) (sym closes.1.client), moved_on a c d talk conn wire (may_shut a b c share how far wakes s must));
      lines = subst (λ (l : List _). length l ≤ 64) (sym (lines_both a b c share how far wakes s)) h.lines;
      drains = drains_both a b c share how far wakes s;
      reads = subst (λ (w : _). w.reads ≤ a.wire.reads + 16) (sym wire) (reads_both a b c share how far wakes s);
      pieces = subst (λ (w : Wire). ReadsSome a.wire w 65536) (sym wire) (pieces_both a b c share how far wakes s);
      at_once = subst (λ (w : Wire). ReadsSome a.wire w (16384 * (w.reads - a.wire.reads))) (sym wire) (at_once_both a b c share how far wakes s);
      after_end = λ end. ap (λ w. w.reads) wire ∙ ended_both a b c share how far wakes s end;
      writes = subst (λ (w : _). w.writes ≤ a.wire.writes + 16) (sym wire) (writes_both a b c share how far wakes s);
      wakes_are = λ home.
          closes.2 home
          ∙ ap (λ y. y || touches end.met end.event home) (h.wakes_are home ∙ sym (touched_drained b.conn.session.client h.talk t.talk home t.own))
          ∙ sym (one_more talk end home);
    }
turned_closed a b c d share last told how far wakes more state.Memory h t must conn wire closes adds =
    let counts : CountsTold share.told (h.talk ++ t.talk) = counts_both b.conn.session.client share.told h.talk t.talk t.own h.told_is in
    let s : Served a b c share how far wakes = record { receives = h; sends = t } in
    let talk : List Moment = h.talk ++ t.talk in
    record {
      talk = talk;
      end = [];
      went = went_then a c d talk [] (went_both a b c share how far wakes s) closes.0;
      own = subst (λ (x : ℕ). AreTalk x talk) (sym closes.0.client) (own_both a b c share how far wakes s);
      asked = λ waiting. subst (λ (x : ℕ). IsAsked x talk) (sym closes.0.client) (asked a b c share how far wakes s waiting);
      unasked = never_both a b c share how far wakes s;
      once = once_both a b c share how far wakes s;
      share = share;
      allowed = refl;
      told_is = counts_still share.told last told talk closes.2 counts adds;
      share_is = counts;
      ends = (refl, to_shut (moved_on a c d talk conn wire (may_shut a b c share how far wakes s must)));
      lines = subst (λ (l : List _). length l ≤ 64) (sym (lines_both a b c share how far wakes s)) h.lines;
      drains = drains_both a b c share how far wakes s;
      reads = subst (λ (w : _). w.reads ≤ a.wire.reads + 16) (sym wire) (reads_both a b c share how far wakes s);
      pieces = subst (λ (w : Wire). ReadsSome a.wire w 65536) (sym wire) (pieces_both a b c share how far wakes s);
      at_once = subst (λ (w : Wire). ReadsSome a.wire w (16384 * (w.reads - a.wire.reads))) (sym wire) (at_once_both a b c share how far wakes s);
      after_end = λ end. ap (λ w. w.reads) wire ∙ ended_both a b c share how far wakes s end;
      writes = subst (λ (w : _). w.writes ≤ a.wire.writes + 16) (sym wire) (writes_both a b c share how far wakes s);
      wakes_are = λ home.
          ap (λ w. has_home w home) closes.1
          ∙ h.wakes_are home ∙ sym (touched_drained b.conn.session.client h.talk t.talk home t.own)
          ∙ ap (λ l. touched l home) (sym (append-nil talk));
    }
turned_closed a b c d share last told how far wakes more state.Idle h t must conn wire closes adds = absurd closes
turned_closed a b c d share last told how far wakes more state.Again h t must conn wire closes adds = absurd closes

pub closes_shut : (a b : Snapshot) (wakes more all told : ℕ) → Made a b (event.Shut a.conn.session.client) more 0 told
    → ((home : ℕ) → has_home all home ≡ (has_home wakes home || has_home more home)) → ClosesTo a b wakes all told state.Closed
closes_shut a b wakes more all told m both = (m.met, m.went, λ home. both home ∙ ap (λ x. has_home wakes home || x) (m.wakes_are home), m.told_is)

-- ---- what was decided

pub must_shut : (c : Snapshot) (how : ReceiveState) (far : SendState) (last : Option Got) → last ≡ c.wire.last_got
    → (far ≡ send.Finished) ⊎ ((far ≡ send.Fault) ⊎ ((how ≡ receive.Stop) ⊎ ((how ≡ receive.All) × (far ≡ send.All) × (last ≡ Some got.End)))) → MustShut c how far
must_shut c how far last same must =
    subst (λ (o : Option Got). (far ≡ send.Finished) ⊎ ((far ≡ send.Fault) ⊎ ((how ≡ receive.Stop) ⊎ ((how ≡ receive.All) × (far ≡ send.All) × (o ≡ Some got.End))))) same must

pub may_rest : (c : Snapshot) (how : ReceiveState) (far : SendState) (x : TurnState) (last : Option Got) → last ≡ c.wire.last_got
    → (Some x ≡ Some state.Idle → (how ≡ receive.All) × ((far ≡ send.WouldBlock) ⊎ ((far ≡ send.All) × (last ≢ Some got.End))))
    → (Some x ≡ Some state.Again → ((how ≡ receive.Again) ⊎ (far ≡ send.Again)) × (how ≢ receive.Memory) × (far ≢ send.Memory))
    → (Some x ≡ Some state.Memory → (how ≡ receive.Memory) ⊎ (far ≡ send.Memory))
    → (Some x ≢ Some state.Closed)
    → MayRest c how far x
may_rest c how far state.Idle last same idle again memory closed =
    subst (λ (o : Option Got). (how ≡ receive.All) × ((far ≡ send.WouldBlock) ⊎ ((far ≡ send.All) × (o ≢ Some got.End)))) same (idle refl)
may_rest c how far state.Again last same idle again memory closed = again refl
may_rest c how far state.Closed last same idle again memory closed = closed refl
may_rest c how far state.Memory last same idle again memory closed = memory refl
