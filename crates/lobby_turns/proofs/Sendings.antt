-- How sending to a client goes on.
use Rattle.std.proofs.Common.{◌≡◌, ◌≢◌, ◌⊎◌, ℕ, zero, suc, ◌+◌, ◌-◌, ◌<◌, ◌≤◌, Bool, true, false, List, [], ◌∷◌, ◌++◌, length, refl, sym, ap, ◌∙◌, subst, inl, inr, arith, append-nil, length-append, true≢false}
use Rattle.std.specs.Prelude.{Option, Some}
use Rattle.std.proofs.Math.Bool.{or-false}
use Rattle.lobby_model.specs.declared.event.Event.TheVariants as event
use Rattle.lobby_holds.specs.declared.link.Sent.{Sent}
use Rattle.lobby_holds.specs.declared.link.Sent.TheVariants as sent
use Rattle.lobby_turns.specs.declared.sending.SendState.{SendState}
use Rattle.lobby_turns.specs.declared.sending.SendState.TheVariants as send
use Rattle.lobby_holds.specs.Wire.{MayGoOn, Wire}
use Rattle.lobby_holds.specs.Moments.{Moment, moment, questions, tells_end, told_end}
use Rattle.lobby_holds.specs.Snapshot.{Snapshot}
use Rattle.lobby_holds.specs.Talk.{AreDrains, EndsDry}
use Rattle.lobby_holds.specs.Went.{Went}
use Rattle.lobby_holds.specs.declared.holds.Chunk.{Chunk}
use Rattle.lobby_holds.specs.Holds.{Drains, DrainsRest, Asks}
use Rattle.lobby_turns.specs.Sending.{MaySend, MaySendOn, OnlyWrites, NoWriteFailed, IsSound, IsAllSent, AsksFirst, Sending, StepIs, SendsNext, IsStop, IsWrittenOut, all_written, stopped, spent, Writes, SentIs, Sends}
use Rattle.lobby_holds.proofs.Parts.{went_none, went_then, questions-append}
use Rattle.lobby_holds.proofs.Talks.{are_drains-append, calm-append, finished-append, dry_behind}
use Rattle.std.proofs.Math.Nat.{add-zero}

pub only_same : (a : Snapshot) → OnlyWrites a a 0
only_same a = record {
  writes_are = sym (add-zero a.wire.writes);
  reads = refl;
  read = refl;
  failures = omega arith;
  last_got = refl;
  still = λ _. refl;
  session = refl;
  unfed = refl;
}

-- without a write none failed
no_fault_none : (a b : Snapshot) (n : ℕ) → n ≡ 0 → OnlyWrites a b n → NoWriteFailed a b
no_fault_none a b n none only = λ rose failed. absurd (omega (arith, rose, only.writes_are, none))

pub sending_none : (a : Snapshot) → a.conn.unwritten ≡ [] → Sending a a 0
sending_none a written = record {
  talk = [];
  went = went_none a;
  own = tt;
  asks = record { waiting = λ rest. absurd (rest written); written = λ _. refl; once = omega arith };
  drains = omega arith;
  sound = record { calm = refl; no_fault = no_fault_none a a 0 refl (only_same a) };
  only = only_same a;
}

pub only_then : (a b c : Snapshot) (m n : ℕ) → OnlyWrites a b m → OnlyWrites b c n → OnlyWrites a c (m + n)
only_then a b c m n h k = record {
  writes_are = omega (arith, h.writes_are, k.writes_are);
  reads = k.reads ∙ h.reads;
  read = k.read ∙ h.read;
  failures = omega (arith, h.failures, k.failures);
  last_got = k.last_got ∙ h.last_got;
  still = λ e. k.still (omega (arith, e)) ∙ h.still (omega (arith, e));
  session = k.session ∙ h.session;
  unfed = k.unfed ∙ h.unfed;
}

their_drains : (a b : Snapshot) (t u : List Moment) → Went a b t → AreDrains a.conn.session.client t → AreDrains b.conn.session.client u → AreDrains a.conn.session.client (t ++ u)
their_drains a b t u went h k = are_drains-append a.conn.session.client t u h (subst (λ (c : ℕ). AreDrains c u) went.client k)

no_fault_then : (a b c : Snapshot) (m n : ℕ) → OnlyWrites a b m → OnlyWrites b c n → NoWriteFailed a b → NoWriteFailed b c → NoWriteFailed a c
no_fault_then a b c m zero h k before behind = λ rose failed. before (omega (arith, rose, k.writes_are)) (sym (k.still refl) ∙ failed)
no_fault_then a b c m (suc n) h k before behind = λ rose failed. behind (omega (arith, k.writes_are)) failed

sound_then : (a b c : Snapshot) (t u : List Moment) (m n : ℕ) → OnlyWrites a b m → OnlyWrites b c n → IsSound a b t → IsSound b c u → IsSound a c (t ++ u)
sound_then a b c t u m n h k before behind =
    record { calm = calm-append t u before.calm behind.calm; no_fault = no_fault_then a b c m n h k before.no_fault behind.no_fault }

-- what was asked first was asked first, and once, whatever follows without a question
asks_on : (a : Snapshot) (t u : List Moment) → questions u ≡ [] → AsksFirst a t → AsksFirst a (t ++ u)
asks_on a t u none h = record {
  waiting = λ rest. ((h.waiting rest).0, (h.waiting rest).1 ++ u, ap (λ l. l ++ u) (h.waiting rest).2);
  written = λ e. questions-append t u ∙ (λ i. h.written e i ++ none i);
  once = omega (arith, h.once, ap length (questions-append t u), length-append (questions t) (questions u), ap length none);
}

wrote : (a b c : Snapshot) (k : ℕ) → Sending a b k → SendsNext b c send.Again → Sending a c (k + 1)
wrote a b c k h s = record {
  talk = h.talk ++ s.talk;
  went = went_then a b c h.talk s.talk h.went s.went;
  own = their_drains a b h.talk s.talk h.went h.own s.own;
  asks = asks_on a h.talk s.talk s.no_question h.asks;
  drains = omega (arith, length-append h.talk s.talk, h.drains, s.drains);
  sound = sound_then a b c h.talk s.talk k s.writes h.only s.only h.sound s.step_is.0;
  only = subst (λ (n : ℕ). OnlyWrites a c (k + n)) s.step_is.1 (only_then a b c k s.writes h.only s.only);
}

pub sending_wrote : (a b c : Snapshot) (k : ℕ) (how : SendState) → how ≡ send.Again → Sending a b k → SendsNext b c how → Sending a c (k + 1)
sending_wrote a b c k how is h s = wrote a b c k h (subst (λ (x : SendState). SendsNext b c x) is s)

-- ---- where sending ends

sent_step : (a b c : Snapshot) (k : ℕ) (s : SendState) (how : SendState) → k < 16 → (h : Sending a b k) → (n : SendsNext b c s) → SentIs a c (h.talk ++ n.talk) how → Sends a c how
sent_step a b c k s how few h n is = record {
  talk = h.talk ++ n.talk;
  went = went_then a b c h.talk n.talk h.went n.went;
  own = their_drains a b h.talk n.talk h.went h.own n.own;
  asks = asks_on a h.talk n.talk n.no_question h.asks;
  drains = omega (arith, length-append h.talk n.talk, h.drains, n.drains, few);
  writes = k + n.writes;
  few = omega (arith, few, n.few);
  only = only_then a b c k n.writes h.only n.only;
  sent_is = is;
}

sends_all : (a b c : Snapshot) (k : ℕ) (how : SendState) → how ≡ send.All → k < 16 → Sending a b k → SendsNext b c how → Sends a c send.All
sends_all a b c k how is few h found =
    let s : SendsNext b c send.All = subst (λ (x : SendState). SendsNext b c x) is found in
    sent_step a b c k send.All send.All few h s (
      sound_then a b c h.talk s.talk k s.writes h.only s.only h.sound s.step_is.0,
      record { written = s.step_is.1.written; dry = dry_behind c.conn.session.client h.talk s.talk s.step_is.1.dry },
    )

sends_would_block : (a b c : Snapshot) (k : ℕ) (how : SendState) → how ≡ send.WouldBlock → k < 16 → Sending a b k → SendsNext b c how → Sends a c send.WouldBlock
sends_would_block a b c k how is few h found =
    let s : SendsNext b c send.WouldBlock = subst (λ (x : SendState). SendsNext b c x) is found in
    sent_step a b c k send.WouldBlock send.WouldBlock few h s (
      sound_then a b c h.talk s.talk k s.writes h.only s.only h.sound s.step_is.0,
      record { last = s.step_is.1.last; made = omega (arith, h.only.writes_are, s.step_is.1.made) },
    )

sends_fault : (a b c : Snapshot) (k : ℕ) (how : SendState) → how ≡ send.Fault → k < 16 → Sending a b k → SendsNext b c how → Sends a c send.Fault
sends_fault a b c k how is few h found =
    let s : SendsNext b c send.Fault = subst (λ (x : SendState). SendsNext b c x) is found in
    sent_step a b c k send.Fault send.Fault few h s (calm-append h.talk s.talk h.sound.calm s.step_is.0, s.step_is.1)

sends_memory : (a b c : Snapshot) (k : ℕ) (how : SendState) → how ≡ send.Memory → k < 16 → Sending a b k → SendsNext b c how → Sends a c send.Memory
sends_memory a b c k how is few h found =
    let s : SendsNext b c send.Memory = subst (λ (x : SendState). SendsNext b c x) is found in
    let still : IsSound b c s.talk = record { calm = ap told_end s.step_is.0; no_fault = no_fault_none b c s.writes s.step_is.1 s.only } in
    sent_step a b c k send.Memory send.Memory few h s (sound_then a b c h.talk s.talk k s.writes h.only s.only h.sound still, s.step_is.2)

-- sending ends where a step neither leaves more nor tells that nothing will come
pub sends_on : (a b c : Snapshot) (k : ℕ) (how : SendState)
    → (how ≡ send.All) ⊎ ((how ≡ send.WouldBlock) ⊎ ((how ≡ send.Fault) ⊎ (how ≡ send.Memory)))
    → k < 16 → Sending a b k → SendsNext b c how → Sends a c how
sends_on a b c k how (inl is) few h found =
    subst (λ (x : SendState). Sends a c x) (sym is) (sends_all a b c k how is few h found)
sends_on a b c k how (inr (inl is)) few h found =
    subst (λ (x : SendState). Sends a c x) (sym is) (sends_would_block a b c k how is few h found)
sends_on a b c k how (inr (inr (inl is))) few h found =
    subst (λ (x : SendState). Sends a c x) (sym is) (sends_fault a b c k how is few h found)
sends_on a b c k how (inr (inr (inr is))) few h found =
    subst (λ (x : SendState). Sends a c x) (sym is) (sends_memory a b c k how is few h found)

-- what was written out since a place between is since an earlier one too
out_since : (a b c : Snapshot) (k most all : ℕ) → k + most ≡ all → OnlyWrites a b k → IsWrittenOut b c most → IsWrittenOut a c all
out_since a b c k most all sum only (all_written e) = all_written e
out_since a b c k most all sum only (stopped made stop) = stopped (omega (arith, made, only.writes_are)) stop
out_since a b c k most all sum only (spent e) = spent (omega (arith, e, only.writes_are, sum))

-- what was drained was written out behind it
finished : (a b c d : Snapshot) (k most : ℕ) → k < 16 → k + most ≡ 16 → Sending a b k → SendsNext b c send.Finished → Writes c d most → Sends a d send.Finished
finished a b c d k most room few h s w = record {
  talk = (h.talk ++ s.talk) ++ [];
  went = went_then a c d (h.talk ++ s.talk) [] (went_then a b c h.talk s.talk h.went s.went) w.went;
  own = their_drains a c (h.talk ++ s.talk) [] (went_then a b c h.talk s.talk h.went s.went) (their_drains a b h.talk s.talk h.went h.own s.own) tt;
  asks = asks_on a (h.talk ++ s.talk) [] refl (asks_on a h.talk s.talk s.no_question h.asks);
  drains = omega (arith, ap length (append-nil (h.talk ++ s.talk)), length-append h.talk s.talk, h.drains, s.drains, room);
  writes = (k + s.writes) + w.writes;
  few = omega (arith, few, w.few, s.step_is.1);
  only = only_then a c d (k + s.writes) w.writes (only_then a b c k s.writes h.only s.only) w.only;
  sent_is = (
    ap told_end (append-nil (h.talk ++ s.talk)) ∙ finished-append h.talk s.talk s.step_is.0,
    out_since a c d (k + s.writes) most 16 (omega (arith, few, s.step_is.1)) (only_then a b c k s.writes h.only s.only) w.out,
  );
}

pub sends_finished : (a b c d : Snapshot) (k most : ℕ) (how : SendState) → how ≡ send.Finished → k < 16 → k + most ≡ 16 → Sending a b k → SendsNext b c how → Writes c d most → Sends a d send.Finished
sends_finished a b c d k most how is room few h s w = finished a b c d k most room few h (subst (λ (x : SendState). SendsNext b c x) is s) w

pub sends_again : (a b : Snapshot) → Sending a b 16 → Sends a b send.Again
sends_again a b h = record {
  talk = h.talk;
  went = h.went;
  own = h.own;
  asks = h.asks;
  drains = omega (arith, h.drains);
  writes = 16;
  few = omega arith;
  only = h.only;
  sent_is = (h.sound, h.only.writes_are);
}

-- ---- what may be done on the way

pub may_go_on : (a b : Snapshot) (k : ℕ) → k < 16 → MaySend a.wire 16 → OnlyWrites a b k → MayGoOn b.wire
may_go_on a b k few may only = record {
  reads = omega (arith, may.reads_place, only.reads);
  writes = omega (arith, may.writes_place, only.writes_are, few);
  failures = omega (arith, may.failures_place, only.failures, few);
}

-- a write more was made
pub one_less : (a b : Wire) → MaySend a 16 → b.reads ≡ a.reads → b.writes ≡ a.writes + 1 → b.failures ≤ a.failures + 1 → MaySend b 15
one_less a b may reads writes failures = record {
  reads_place = omega (arith, may.reads_place, reads);
  writes_place = omega (arith, may.writes_place, writes);
  failures_place = omega (arith, may.failures_place, failures);
}

-- a step that writes on, of those that are left behind a first
pub may_go_on_behind : (a b : Snapshot) (made k : ℕ) → made + 1 ≡ k → k < 16 → MaySend a.wire 15 → OnlyWrites a b made → MayGoOn b.wire
may_go_on_behind a b made k is few may only = record {
  reads = omega (arith, may.reads_place, only.reads);
  writes = omega (arith, may.writes_place, only.writes_are, few, is);
  failures = omega (arith, may.failures_place, only.failures, few, is);
}

pub may_send_behind : (a b c : Snapshot) (made n k most : ℕ) → made + 1 ≡ k → n ≡ 0 → k + most ≡ 16 → MaySend a.wire 15 → OnlyWrites a b made → OnlyWrites b c n → MaySend c.wire most
may_send_behind a b c made n k most is none all may only more = record {
  reads_place = omega (arith, may.reads_place, only.reads, more.reads);
  writes_place = omega (arith, may.writes_place, only.writes_are, more.writes_are, is, none, all);
  failures_place = omega (arith, may.failures_place, only.failures, more.failures, is, none, all);
}

-- a first step that left more
pub first_wrote : (a b : Snapshot) (how : SendState) → how ≡ send.Again → MaySendOn b.wire how → MaySend b.wire 15
first_wrote a b how is may = subst (λ (x : SendState). MaySendOn b.wire x) is may

pub made_more : (a b c : Snapshot) (made k : ℕ) (how : SendState) → how ≡ send.Again → made + 1 ≡ k → OnlyWrites a b made → SendsNext b c how → (n : ℕ) × (n + 1 ≡ k + 1) × OnlyWrites a c n
made_more a b c made k how is was only found =
    let s : SendsNext b c send.Again = subst (λ (x : SendState). SendsNext b c x) is found in
    (made + s.writes, omega (arith, was, s.step_is.1), only_then a b c made s.writes only s.only)

pub writes_none : (b c : Snapshot) (how : SendState) → how ≡ send.Finished → (s : SendsNext b c how) → (n : ℕ) × (n ≡ 0) × OnlyWrites b c n
writes_none b c how is found =
    let s : SendsNext b c send.Finished = subst (λ (x : SendState). SendsNext b c x) is found in
    (s.writes, s.step_is.1, s.only)

pub no_write : (a b : Snapshot) → b.wire ≡ a.wire → b.conn.session ≡ a.conn.session → b.conn.unfed ≡ a.conn.unfed → OnlyWrites a b 0
no_write a b wire session unfed = record {
  writes_are = ap (λ w. w.writes) wire ∙ sym (add-zero a.wire.writes);
  reads = ap (λ w. w.reads) wire;
  read = ap (λ w. w.read) wire;
  failures = omega (arith, ap (λ w. w.failures) wire);
  last_got = ap (λ w. w.last_got) wire;
  still = λ _. ap (λ w. w.last_sent) wire;
  session = session;
  unfed = unfed;
}

-- what was drained in the hold before is drained behind what was said
pub rest_only : (a b : Snapshot) (piece : Chunk) → DrainsRest a b piece → OnlyWrites a b 0
rest_only a b piece d = no_write a b d.wire d.session d.unfed

pub may_send : (a b c : Snapshot) (k n most : ℕ) → (k + n) + most ≤ 16 → MaySend a.wire 16 → OnlyWrites a b k → OnlyWrites b c n → MaySend c.wire most
may_send a b c k n most few may only more = record {
  reads_place = omega (arith, may.reads_place, only.reads, more.reads);
  writes_place = omega (arith, may.writes_place, only.writes_are, more.writes_are, few);
  failures_place = omega (arith, may.failures_place, only.failures, more.failures, few);
}

-- ---- single steps

pub next_memory : (a : Snapshot) → a.conn.unwritten ≡ [] → SendsNext a a send.Memory
next_memory a written = record { talk = []; went = went_none a; own = tt; no_question = refl; drains = omega arith; writes = 0; few = omega arith; only = only_same a; step_is = (refl, refl, written) }

-- ---- behind drains

-- drains that did not say that nothing will come
pub drains_on : (a b : Snapshot) (finished dry : Bool) → finished ≡ false → Drains a b finished dry → Drains a b false dry
drains_on a b finished dry goes_on d = subst (λ (x : Bool). Drains a b x dry) goes_on d

-- what was drained was then written, as much of it as the link took
wrote_behind : (a b c : Snapshot) (dry : Bool) (how : SendState) → (d : Drains a b false dry) → OnlyWrites a b 0 → Went b c [] → OnlyWrites b c 1 → StepIs a c d.talk 1 how → SendsNext a c how
wrote_behind a b c dry how d before went only is = record {
  talk = d.talk;
  went = subst (λ (t : List Moment). Went a c t) (append-nil d.talk) (went_then a b c d.talk [] d.went went);
  own = d.own;
  no_question = d.no_question;
  drains = d.few;
  writes = 1;
  few = omega arith;
  only = only_then a b c 0 1 before only;
  step_is = is;
}

-- the link took what was written
took : (n : ℕ) (last : Option Sent) → last ≡ Some (sent.Took n) → last ≢ Some sent.Fault
took n last is failed = absurd (cc (is, failed))

pub next_wrote : (a b c : Snapshot) (dry : Bool) (n : ℕ) → Drains a b false dry → OnlyWrites a b 0 → Went b c [] → OnlyWrites b c 1 → c.wire.last_sent ≡ Some (sent.Took n) → SendsNext a c send.Again
next_wrote a b c dry n d before went only last =
    wrote_behind a b c dry send.Again d before went only (record { calm = d.finished_is; no_fault = λ _. took n c.wire.last_sent last }, refl)

pub next_would_block : (a b c : Snapshot) (dry : Bool) → Drains a b false dry → OnlyWrites a b 0 → Went b c [] → OnlyWrites b c 1 → c.wire.last_sent ≡ Some sent.Later → SendsNext a c send.WouldBlock
next_would_block a b c dry d before went only last =
    wrote_behind a b c dry send.WouldBlock d before went only (
      record { calm = d.finished_is; no_fault = λ _ failed. absurd (cc (last, failed)) },
      record { last = last; made = omega (arith, before.writes_are, only.writes_are) },
    )

pub next_fault : (a b c : Snapshot) (dry : Bool) → Drains a b false dry → OnlyWrites a b 0 → Went b c [] → OnlyWrites b c 1 → c.wire.last_sent ≡ Some sent.Fault → SendsNext a c send.Fault
next_fault a b c dry d before went only last = wrote_behind a b c dry send.Fault d before went only (d.finished_is, last)

-- all is sent
sent_all : (a b c : Snapshot) (dry : Bool) → (d : Drains a b false dry) → dry ≡ true → c.conn.session.client ≡ a.conn.session.client → c.conn.unwritten ≡ [] → IsAllSent c d.talk
sent_all a b c dry d is_dry client written =
    record { written = written; dry = subst (λ (n : ℕ). EndsDry n d.talk) (sym client) (d.dry_is is_dry) }

pub next_sent : (a b c : Snapshot) (dry : Bool) (n : ℕ) → Drains a b false dry → OnlyWrites a b 0 → Went b c [] → OnlyWrites b c 1 → c.wire.last_sent ≡ Some (sent.Took n) → dry ≡ true → c.conn.unwritten ≡ []
    → SendsNext a c send.All
next_sent a b c dry n d before went only last is_dry written =
    wrote_behind a b c dry send.All d before went only (
      record { calm = d.finished_is; no_fault = λ _. took n c.wire.last_sent last },
      sent_all a b c dry d is_dry (went.client ∙ d.went.client) written,
    )

pub next_all : (a b : Snapshot) (finished dry : Bool) → finished ≡ false → dry ≡ true → OnlyWrites a b 0 → b.conn.unwritten ≡ [] → Drains a b finished dry → SendsNext a b send.All
next_all a b finished dry goes_on is_dry only written found =
    let d : Drains a b false dry = drains_on a b finished dry goes_on found in
    record {
      talk = d.talk;
      went = d.went;
      own = d.own;
      no_question = d.no_question;
      drains = d.few;
      writes = 0;
      few = omega arith;
      only = only;
      step_is = (
        record { calm = d.finished_is; no_fault = no_fault_none a b 0 refl only },
        sent_all a b b dry d is_dry d.went.client written,
      );
    }

pub next_finished : (a b : Snapshot) (finished dry : Bool) → finished ≡ true → OnlyWrites a b 0 → Drains a b finished dry → SendsNext a b send.Finished
next_finished a b finished dry is_so only d = record {
  talk = d.talk;
  went = d.went;
  own = d.own;
  no_question = d.no_question;
  drains = d.few;
  writes = 0;
  few = omega arith;
  only = only;
  step_is = (d.finished_is ∙ is_so, refl);
}

-- nothing was drained
pub drains_none : (a : Snapshot) → Drains a a false false
drains_none a = record { talk = []; went = went_none a; own = tt; few = omega arith; no_question = refl; finished_is = refl; dry_is = λ e. absurd (true≢false (sym e)) }

-- the loop begins behind the question whether the client is finished
abbrev question : (a b : Snapshot) (finished : Bool) → Asks a b finished → Moment
question a b finished d = moment d.met (event.Drain a.conn.session.client 0)

told : (a b : Snapshot) (finished : Bool) → (d : Asks a b finished) → told_end (question a b finished d ∷ []) ≡ finished
told a b finished d = or-false (tells_end d.met (event.Drain a.conn.session.client 0)) ∙ d.finished_is

asks_once : (a b : Snapshot) (finished : Bool) → a.conn.unwritten ≢ [] → (d : Asks a b finished) → AsksFirst a (question a b finished d ∷ [])
asks_once a b finished rest d = record { waiting = λ _. (d.met, [], refl); written = λ none. absurd (rest none); once = omega arith }

pub sending_asked : (a b : Snapshot) (finished : Bool) → a.conn.unwritten ≢ [] → finished ≡ false → OnlyWrites a b 0 → Asks a b finished → Sending a b 0
sending_asked a b finished rest goes_on only d = record {
  talk = question a b finished d ∷ [];
  went = d.went;
  own = ((refl, omega arith), tt);
  asks = asks_once a b finished rest d;
  drains = omega arith;
  sound = record { calm = told a b finished d ∙ goes_on; no_fault = no_fault_none a b 0 refl only };
  only = only;
}

-- ---- writing out

-- so many writes were made, without an event
pub record Writing (old new : Snapshot) (writes : ℕ) : Type 0 where
  pub went : Went old new []
  pub only : OnlyWrites old new writes

pub writing_none : (a : Snapshot) → Writing a a 0
writing_none a = record { went = went_none a; only = only_same a }

pub writing_more : (a b c : Snapshot) (k : ℕ) → Writing a b k → Went b c [] → OnlyWrites b c 1 → Writing a c (k + 1)
writing_more a b c k h went only = record { went = went_then a b c [] [] h.went went; only = only_then a b c k 1 h.only only }

writes_out : (a b : Snapshot) (k most : ℕ) → k ≤ most → Writing a b k → IsWrittenOut a b most → Writes a b most
writes_out a b k most few h out = record { went = h.went; writes = k; few = few; only = h.only; out = out }

-- a write that took nothing
pub stops : (r : Sent) (last : Option Sent) → ((n : ℕ) → r ≡ sent.Took n → ⊥) → last ≡ Some r → IsStop last
stops r last none is = subst IsStop (sym is) (stop r none)
  where
    stop : (r : Sent) → ((n : ℕ) → r ≡ sent.Took n → ⊥) → IsStop (Some r)
    stop (sent.Took n) none = none n refl
    stop sent.Later none = tt
    stop sent.Fault none = tt

pub writes_all : (a b : Snapshot) (k most : ℕ) → k < most → b.conn.unwritten ≡ [] → Writing a b k → Writes a b most
writes_all a b k most few none h = writes_out a b k most (omega (arith, few)) h (all_written none)

pub writes_stopped : (a b c : Snapshot) (k most : ℕ) → k < most → IsStop c.wire.last_sent → Writing a b k → Went b c [] → OnlyWrites b c 1 → Writes a c most
writes_stopped a b c k most few stop h went only =
    writes_out a c (k + 1) most (omega (arith, few)) (writing_more a b c k h went only) (stopped (omega (arith, h.only.writes_are, only.writes_are)) stop)

pub writes_most : (a b : Snapshot) (k most : ℕ) → k ≡ most → Writing a b k → Writes a b most
writes_most a b k most same h = writes_out a b k most (omega (arith, same)) h (spent (omega (arith, h.only.writes_are, same)))

-- finished already when asked
pub sends_asked : (a b c : Snapshot) (finished : Bool) → a.conn.unwritten ≢ [] → finished ≡ true → OnlyWrites a b 0 → Asks a b finished → Writes b c 16 → Sends a c send.Finished
sends_asked a b c finished rest is_so only d w = record {
  talk = question a b finished d ∷ [];
  went = went_then a b c (question a b finished d ∷ []) [] d.went w.went;
  own = ((refl, omega arith), tt);
  asks = asks_once a b finished rest d;
  drains = omega arith;
  writes = 0 + w.writes;
  few = omega (arith, w.few);
  only = only_then a b c 0 w.writes only w.only;
  sent_is = (
    told a b finished d ∙ is_so,
    out_since a b c 0 16 16 (omega arith) only w.out,
  );
}

pub one_write : (a b : Snapshot) → b.wire.writes ≡ a.wire.writes + 1 → b.wire.reads ≡ a.wire.reads → b.wire.read ≡ a.wire.read → b.wire.failures ≤ a.wire.failures + 1 → b.wire.last_got ≡ a.wire.last_got
    → b.conn.session ≡ a.conn.session → b.conn.unfed ≡ a.conn.unfed → OnlyWrites a b 1
one_write a b writes reads read failures last_got session unfed =
    record { writes_are = writes; reads = reads; read = read; failures = failures; last_got = last_got; still = λ e. absurd (omega (arith, e)); session = session; unfed = unfed }

-- ---- how often the link may still be written

pub writes_on : (a b : Snapshot) (most n : ℕ) → MaySend a.wire most → n < most → Writing a b n → MayGoOn b.wire
writes_on a b most n may few h = record {
  reads = omega (arith, h.only.reads, may.reads_place);
  writes = omega (arith, h.only.writes_are, may.writes_place, few);
  failures = omega (arith, h.only.failures, may.failures_place, few);
}

pub finished_may : (a b c : Snapshot) (made writes : ℕ) (how : SendState) → how ≡ send.Finished → MaySend a.wire 15 → made + 1 ≡ writes → writes < 16 → OnlyWrites a b made → SendsNext b c how → MaySend c.wire (16 - writes)
finished_may a b c made writes how is may one few only found =
    let s : SendsNext b c send.Finished = subst (λ (x : SendState). SendsNext b c x) is found in
    record {
      reads_place = omega (arith, s.only.reads, only.reads, may.reads_place);
      writes_place = omega (arith, s.only.writes_are, s.step_is.1, only.writes_are, may.writes_place, one, few);
      failures_place = omega (arith, s.only.failures, s.step_is.1, only.failures, may.failures_place, one, few);
    }
