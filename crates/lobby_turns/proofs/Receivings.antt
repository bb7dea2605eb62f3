-- How receiving from a client goes on.
use Rattle.std.proofs.Common.{◌≡◌, ◌≢◌, ◌⊎◌, ℕ, zero, suc, ◌+◌, ◌-◌, ◌^◌, ◌<◌, ◌≤◌, true, false, List, [], ◌∷◌, ◌++◌, refl, sym, ap, ◌∙◌, subst, inl, inr, arith, append-nil, length-append, true≢false}
use Rattle.std.specs.Prelude.{◌||◌, Bool, IfSome, Option, Some, None}
use Rattle.std.specs.Option.{option_map}
use Rattle.lobby_post.specs.Mask.{has_home}
use Rattle.lobby_holds.specs.declared.link.Got.TheVariants as got
use Rattle.lobby_holds.specs.declared.holds.Chunk.{Chunk}
use Rattle.lobby_holds.specs.declared.holds.Said.{Said}
use Rattle.lobby_turns.specs.declared.receiving.ReceiveState.{ReceiveState}
use Rattle.lobby_turns.specs.declared.receiving.ReceiveState.TheVariants as receive
use Rattle.lobby_turns.specs.declared.receiving.Left.{Left}
use Rattle.lobby_turns.specs.declared.receiving.Step.{Step}
use Rattle.lobby_turns.specs.declared.receiving.Step.TheVariants as step
use Rattle.lobby_machine.specs.Work.{counted_on}
use Rattle.lobby_holds.specs.Moments.{Moment, told_behind, work_of}
use Rattle.lobby_holds.proofs.Counted.{told_behind_is, work_of-append}
use Rattle.lobby_holds.specs.Wire.{IsFresh, MayGoOn, Wire, ReadsBytes, and_more}
use Rattle.lobby_holds.specs.Snapshot.{Snapshot}
use Rattle.client_session.specs.Serving.{Serving}
use Rattle.lobby_holds.specs.Went.{Went}
use Rattle.lobby_holds.specs.Holds.{AreSaid, DrainsBehind, SaysLines, SaysThenDrains, IsWithin, HasLoudNext, HasTold, StopsAt}
use Rattle.client_session.specs.declared.session.Next.TheVariants.{Nothing, Spoilt}
use Rattle.client_session.specs.OneSession.{HasLineNext, IsNextOf}
use Rattle.lobby_turns.specs.Receiving.{CountsTold, IsSpent, Share, left_of, OnlyReads, IsAllReceived, NoReadFailed, LimitIs, MayRead, HasToReceive, has_bytes, has_line, has_more, StaysWithin, IsMost, most_lines, most_reads, most_bytes, most_told, bytes_of, StepIs, ReceivesNext, ReceivedIs, Receives, GaveBytes, ReceivesStep, ReceivesThenDrains, SaysAndDrains, ReceivesSome, HasDried, IsReceiving, MadeReads}
use Rattle.lobby_turns.specs.Sending.{MaySend}
use Rattle.lobby_holds.proofs.Parts.{went_none, went_then, more_none, more_twice}
use Rattle.lobby_holds.proofs.Nexts.{line_is_sound}
use Rattle.lobby_holds.proofs.Sayings.{said_then, loud_is_line, stays_next}
use Rattle.std.proofs.Math.Nat.{add-zero, zero-add}

reads_none : (a b : Wire) → b ≡ a → ReadsBytes a b 0
reads_none a b same = record { more = []; read = ap (λ w. w.read) same ∙ more_none a.read; bytes_are = refl }

reads_then : (a b c : Wire) (p q : ℕ) → ReadsBytes a b p → ReadsBytes b c q → ReadsBytes a c (p + q)
reads_then a b c p q h k = record {
  more = h.more ++ k.more;
  read = k.read ∙ ap (λ o. and_more o k.more) h.read ∙ more_twice a.read h.more k.more;
  bytes_are = omega (arith, h.bytes_are, k.bytes_are, length-append h.more k.more);
}

pub receiving_none : (a : Snapshot) (wakes : ℕ) → ((home : ℕ) → has_home wakes home ≡ false) → ReceivesSome a a 0 0 0 wakes 0
receiving_none a wakes none = record {
  sum = 0;
  says = record {
    talk = [];
    went = went_none a;
    said = record { own = tt; calm = refl; lines_are = refl; only = refl; wakes_are = none; told_is = refl };
    unwritten = refl;
  };
  told_is = λ _. refl;
  only = record { reads_are = omega arith; bytes_are = reads_none a.wire a.wire refl; at_once = omega arith; writes = refl; failures = omega arith; still = λ _. refl; unwritten = refl };
}

only_then : (a b c : Snapshot) (m n p q : ℕ) → OnlyReads a b m p → OnlyReads b c n q → OnlyReads a c (m + n) (p + q)
only_then a b c m n p q h k = record {
  reads_are = omega (arith, h.reads_are, k.reads_are);
  bytes_are = reads_then a.wire b.wire c.wire p q h.bytes_are k.bytes_are;
  at_once = omega (arith, h.at_once, k.at_once);
  writes = k.writes ∙ h.writes;
  failures = omega (arith, h.failures, k.failures);
  still = λ e. k.still (omega (arith, e)) ∙ h.still (omega (arith, e));
  unwritten = k.unwritten ∙ h.unwritten;
}

-- what came without a line
quietly : (a b c : Snapshot) (m k n p q wakes told : ℕ) (u : List Moment) → ReceivesSome a b m k p wakes told → Went b c u → OnlyReads b c n q → u ≡ []
    → ReceivesSome a c m (k + n) (p + q) wakes told
quietly a b c m k n p q wakes told u h went only none =
    let t : List Moment = h.says.talk in
    record {
      sum = h.sum;
      told_is = h.told_is;
      says = record {
        talk = t;
        went = subst (λ (l : List Moment). Went a c l) (ap (λ l. t ++ l) none ∙ append-nil t) (went_then a b c t u h.says.went went);
        said = h.says.said;
        unwritten = only.unwritten ∙ h.says.unwritten;
      };
      only = only_then a b c k n p q h.only only;
    }

pub receiving_read : (a b c : Snapshot) (m k p q wakes told : ℕ) → ReceivesSome a b m k p wakes told → ReceivesNext b c (step.Read q)
    → ReceivesSome a c m (k + 1) (p + q) wakes told
receiving_read a b c m k p q wakes told h s =
    subst (λ (n : ℕ). ReceivesSome a c m (k + n) (p + q) wakes told) s.step_is.1 (quietly a b c m k s.reads p q wakes told s.talk h s.went s.only s.step_is.0)

-- two counts together, as far as a number of 64 bits can tell
abbrev pub Adds : ℕ → ℕ → ℕ → Type 0
Adds told more all = told + more < 2 ^ 64 → all ≡ told + more

-- what a hold counted from 0 on
said_told : (c : ℕ) (talk : List Moment) (lines wakes told : ℕ) → AreSaid c talk lines wakes 0 told → CountsTold told talk
said_told c talk lines wakes told said small =
    let is : told ≡ counted_on 0 (work_of talk) = sym said.told_is ∙ told_behind_is 0 talk (omega arith) in
    omega (arith, is, small)

pub both_told : (told more all : ℕ) (t u : List Moment) → CountsTold told t → CountsTold more u → Adds told more all → CountsTold all (t ++ u)
both_told told more all t u h k adds small =
    let whole : work_of (t ++ u) ≡ work_of t + work_of u = work_of-append t u in
    let first : told ≡ work_of t = h (omega (arith, whole, small)) in
    let second : more ≡ work_of u = k (omega (arith, whole, small)) in
    let together : all ≡ told + more = adds (omega (arith, whole, small, first, second)) in
    omega (arith, whole, first, second, together)

-- the same lines, where a count goes on by them from another number
counts_from : (before c : ℕ) (talk : List Moment) (lines wakes told : ℕ) → AreSaid c talk lines wakes 0 told → AreSaid c talk lines wakes before (told_behind before talk)
counts_from before c talk lines wakes told said =
    record { own = said.own; calm = said.calm; lines_are = said.lines_are; only = said.only; wakes_are = said.wakes_are; told_is = refl }

pub receiving_said : (a b c : Snapshot) (m k p wakes told : ℕ) (said : Said) (all sum : ℕ) → ReceivesSome a b m k p wakes told → ReceivesNext b c (step.Said said)
    → ((home : ℕ) → has_home all home ≡ (has_home wakes home || has_home said.wakes home)) → Adds told said.told sum
    → ReceivesSome a c (m + said.lines) k p all sum
receiving_said a b c m k p wakes told said all sum h s both adds = record {
  sum = told_behind h.sum s.talk;
  says = record {
    talk = h.says.talk ++ s.talk;
    went = went_then a b c h.says.talk s.talk h.says.went s.went;
    said =
        said_then a.conn.session.client h.says.talk s.talk m said.lines wakes said.wakes all 0 h.sum (told_behind h.sum s.talk) h.says.said
        (subst (λ (d : ℕ). AreSaid d s.talk said.lines said.wakes h.sum (told_behind h.sum s.talk)) h.says.went.client
        (counts_from h.sum b.conn.session.client s.talk said.lines said.wakes said.told s.step_is.1)) both;
    unwritten = s.only.unwritten ∙ h.says.unwritten;
  };
  told_is = both_told told said.told sum h.says.talk s.talk h.told_is (said_told b.conn.session.client s.talk said.lines said.wakes said.told s.step_is.1) adds;
  only =
      subst (λ (n : ℕ). OnlyReads a c n p) (ap (λ n. k + n) s.step_is.0 ∙ add-zero k) (
      subst (λ (n : ℕ). OnlyReads a c (k + s.reads) n) (add-zero p) (only_then a b c k s.reads p 0 h.only s.only));
}

pub only_none : (a c : Snapshot) → c.wire ≡ a.wire → c.conn.unwritten ≡ a.conn.unwritten → OnlyReads a c 0 0
only_none a c same unwritten = record {
  reads_are = ap (λ w. w.reads) same ∙ none a.wire.reads;
  bytes_are = reads_none a.wire c.wire same;
  at_once = omega arith;
  writes = ap (λ w. w.writes) same;
  failures = omega (arith, ap (λ w. w.failures) same);
  still = λ _. ap (λ w. w.last_got) same;
  unwritten = unwritten;
}
  where
    none : (n : ℕ) → n ≡ n + 0
    none n = omega arith

-- without a read none failed that did not fail before
no_fault_then : (a b c : Snapshot) (n q : ℕ) → n ≡ 0 → OnlyReads b c n q → NoReadFailed a b → NoReadFailed a c
no_fault_then a b c n q none only h = λ rose failed. h (omega (arith, rose, only.reads_are, none)) (sym (only.still none) ∙ failed)

-- where all is received the last read did not fail
no_fault_all : (a c : Snapshot) → IsAllReceived a c → c.wire.last_got ≢ Some got.Fault
no_fault_all a c h = last h.last
  where
    last : (c.wire.last_got ≡ Some got.End) ⊎ ((c.wire.last_got ≡ Some got.Later) × (a.wire.reads < c.wire.reads)) → c.wire.last_got ≢ Some got.Fault
    last (inl end) = λ failed. absurd (cc (end, failed))
    last (inr later) = λ failed. absurd (cc (later.0, failed))

-- ---- the whole of what a round of receiving keeps

pub begins : (a : Snapshot) (wakes : ℕ) → ((home : ℕ) → has_home wakes home ≡ false) → IsReceiving a a 0 0 0 wakes 0 false
begins a wakes none =
    record { receiving = receiving_none a wakes none; late = λ _ _. refl; dries = λ d. absurd (true≢false (sym d)); dry_fed = λ d. absurd (true≢false (sym d)); sound = λ rose failed. absurd (omega (arith, rose)); after_end = λ _. refl; few_lines = omega arith; few_reads = omega arith; few_bytes = omega arith }

-- behind its end no link is read
unread : (b : Snapshot) (n : ℕ) → (0 < n → MayRead b) → b.wire.last_got ≡ Some got.End → n ≡ 0
unread b zero may end = refl
unread b (suc n) may end = absurd ((may (omega arith)).on end)

end_stays : (a b c : Snapshot) (k n p : ℕ) → OnlyReads a b k p → (a.wire.last_got ≡ Some got.End → k ≡ 0) → (0 < n → MayRead b) → a.wire.last_got ≡ Some got.End → k + n ≡ 0
end_stays a b c k n p only first may end = omega (arith, first end, unread b n may (only.still (first end) ∙ end))

said_within : (left : Left) (session : Serving) (how : Step) (said : Said) → how ≡ step.Said said → StaysWithin left session how → IsWithin left.lines said × ((events : ℕ) × StopsAt left.lines left.told session events said)
said_within left session how said is within = subst (λ (x : Step). StaysWithin left session x) is within

lines_fit : (m : ℕ) (left : Left) (said : Said) → m ≤ 64 → left.lines ≡ 64 - m → IsWithin left.lines said → m + said.lines ≤ 64
lines_fit m left said few left_is fits = omega (arith, few, left_is, fits.0)

-- nothing was read since
dried_still : (a b c : Snapshot) → c.wire.reads ≡ b.wire.reads → c.wire.last_got ≡ b.wire.last_got → HasDried a b → HasDried a c
dried_still a b c reads last (inl end) = inl (last ∙ end)
dried_still a b c reads last (inr later) = inr (last ∙ later.0, omega (arith, reads, later.1))

reads_still : (b c : Snapshot) (n q : ℕ) → n ≡ 0 → OnlyReads b c n q → c.wire.reads ≡ b.wire.reads
reads_still b c n q none only = only.reads_are ∙ ap (λ n. b.wire.reads + n) none ∙ add-zero b.wire.reads

pub goes_on_said : (a b c : Snapshot) (m k p wakes told : ℕ) (dry : Bool) (left : Left) (said : Said) (all sum : ℕ) (how : Step) → how ≡ step.Said said → left.lines ≡ 64 - m
    → (dry ≡ true → c.conn.unfed ≡ []) → StaysWithin left c.conn.session how → IsReceiving a b m k p wakes told dry → ReceivesStep b c how
    → ((home : ℕ) → has_home all home ≡ (has_home wakes home || has_home said.wakes home)) → Adds told said.told sum
    → IsReceiving a c (m + said.lines) k p all sum dry
goes_on_said a b c m k p wakes told dry left said all sum how is left_is fed within h found both adds =
    let s : ReceivesNext b c (step.Said said) = subst (λ (x : Step). ReceivesStep b c x) is found in
    let same = reads_still b c s.reads 0 s.step_is.0 s.only in
    let still = s.only.still s.step_is.0 in
    record {
      receiving = receiving_said a b c m k p wakes told said all sum h.receiving s both adds;
      late = λ d e. same ∙ h.late d (sym still ∙ e);
      dries = λ d. dried_still a b c same still (h.dries d);
      dry_fed = fed;
      sound = no_fault_then a b c s.reads 0 s.step_is.0 s.only h.sound;
      after_end = h.after_end;
      few_lines = lines_fit m left said h.few_lines left_is (said_within left c.conn.session how said is within).0;
      few_reads = h.few_reads;
      few_bytes = h.few_bytes;
    }

pub goes_on_read : (a b c : Snapshot) (m k p q wakes told : ℕ) (left : Left) (how : Step) → how ≡ step.Read q → k < 16 → left.bytes ≡ 65536 - p
    → StaysWithin left c.conn.session how → IsReceiving a b m k p wakes told left.is_dry → ReceivesStep b c how → IsReceiving a c m (k + 1) (p + q) wakes told left.is_dry
goes_on_read a b c m k p q wakes told left how is few left_is within h found =
    let s : ReceivesNext b c (step.Read q) = subst (λ (x : Step). ReceivesStep b c x) is found in
    let stays : (q ≤ left.bytes) × (left.is_dry ≡ false) = subst (λ (x : Step). StaysWithin left c.conn.session x) is within in
    let fits : q ≤ left.bytes = stays.0 in
    record {
      receiving = receiving_read a b c m k p q wakes told h.receiving s;
      late = λ _ e. absurd (cc (e, s.step_is.2));
      dries = λ d. absurd (true≢false (sym d ∙ stays.1));
      dry_fed = λ d. absurd (true≢false (sym d ∙ stays.1));
      sound = λ _ e. absurd (cc (e, s.step_is.2));
      after_end = λ end. ap (λ n. k + n) (sym s.step_is.1) ∙ end_stays a b c k s.reads p h.receiving.only h.after_end s.may_read end;
      few_lines = h.few_lines;
      few_reads = omega (arith, few);
      few_bytes = omega (arith, fits, left_is, h.few_bytes);
    }

-- the link gave bytes
pub gave : (b c : Snapshot) (q : ℕ) (how : Step) → how ≡ step.Read q → ReceivesStep b c how → GaveBytes c.wire
gave b c q how is found = let s : ReceivesNext b c (step.Read q) = subst (λ (x : Step). ReceivesStep b c x) is found in (q, s.step_is.2)

not_fault : (c : Snapshot) → (c.wire.last_got ≡ Some got.Later) ⊎ (c.wire.last_got ≡ Some got.End) → c.wire.last_got ≢ Some got.Fault
not_fault c (inl later) = λ failed. absurd (cc (later, failed))
not_fault c (inr end) = λ failed. absurd (cc (end, failed))

has_dried : (a c : Snapshot) → a.wire.reads < c.wire.reads → (c.wire.last_got ≡ Some got.Later) ⊎ (c.wire.last_got ≡ Some got.End) → HasDried a c
has_dried a c rose (inl later) = inr (later, rose)
has_dried a c rose (inr end) = inl end

pub goes_on_dry : (a b c : Snapshot) (m k p wakes told : ℕ) (dry : Bool) (how : Step) → how ≡ step.Dry → k < 16 → IsReceiving a b m k p wakes told dry → ReceivesStep b c how
    → IsReceiving a c m (k + 1) p wakes told true
goes_on_dry a b c m k p wakes told dry how is few h found =
    let s : ReceivesNext b c step.Dry = subst (λ (x : Step). ReceivesStep b c x) is found in
    let all : ReceivesSome a c m (k + s.reads) (p + 0) wakes told = quietly a b c m k s.reads p 0 wakes told s.talk h.receiving s.went s.only s.step_is.0 in
    let rose : a.wire.reads < c.wire.reads = omega (arith, h.receiving.only.reads_are, s.only.reads_are, s.step_is.1) in
    record {
      receiving = subst (λ (n : ℕ). ReceivesSome a c m (k + 1) n wakes told) (add-zero p) (subst (λ (n : ℕ). ReceivesSome a c m (k + n) (p + 0) wakes told) s.step_is.1 all);
      late = λ d. absurd (true≢false d);
      dries = λ _. has_dried a c rose s.step_is.3;
      dry_fed = λ _. s.step_is.2;
      sound = λ _. not_fault c s.step_is.3;
      after_end = λ end. ap (λ n. k + n) (sym s.step_is.1) ∙ end_stays a b c k s.reads p h.receiving.only h.after_end s.may_read end;
      few_lines = h.few_lines;
      few_reads = omega (arith, few);
      few_bytes = h.few_bytes;
    }

-- behind it all that was read was fed
pub dry_fed : (b c : Snapshot) (how : Step) → how ≡ step.Dry → ReceivesStep b c how → c.conn.unfed ≡ []
dry_fed b c how is found = let s : ReceivesNext b c step.Dry = subst (λ (x : Step). ReceivesStep b c x) is found in s.step_is.2

-- before a line that is to be said
pub goes_on_waiting : (a b c : Snapshot) (m k p wakes told : ℕ) (dry : Bool) (how : Step) → how ≡ step.Waits → (dry ≡ true → c.conn.unfed ≡ []) → IsReceiving a b m k p wakes told dry → ReceivesStep b c how
    → IsReceiving a c m k p wakes told dry
goes_on_waiting a b c m k p wakes told dry how is fed h found =
    let s : ReceivesNext b c step.Waits = subst (λ (x : Step). ReceivesStep b c x) is found in
    let same = reads_still b c s.reads 0 s.step_is.1 s.only in
    let still = s.only.still s.step_is.1 in
    let all : ReceivesSome a c m (k + s.reads) (p + 0) wakes told = quietly a b c m k s.reads p 0 wakes told s.talk h.receiving s.went s.only s.step_is.0 in
    record {
      receiving = subst (λ (n : ℕ). ReceivesSome a c m n p wakes told) (ap (λ n. k + n) s.step_is.1 ∙ add-zero k) (subst (λ (n : ℕ). ReceivesSome a c m (k + s.reads) n wakes told) (add-zero p) all);
      late = λ d e. same ∙ h.late d (sym still ∙ e);
      dries = λ d. dried_still a b c same still (h.dries d);
      dry_fed = fed;
      sound = no_fault_then a b c s.reads 0 s.step_is.1 s.only h.sound;
      after_end = h.after_end;
      few_lines = h.few_lines;
      few_reads = h.few_reads;
      few_bytes = h.few_bytes;
    }

-- where the worker served others, or nothing was done
pub goes_on_among : (a b c : Snapshot) (m k p wakes told : ℕ) (dry : Bool) → Went b c [] → c.wire ≡ b.wire → c.conn ≡ b.conn → IsReceiving a b m k p wakes told dry → IsReceiving a c m k p wakes told dry
goes_on_among a b c m k p wakes told dry went same conn h =
    let only : OnlyReads b c 0 0 = only_none b c same (ap (λ x. x.unwritten) conn) in
    record {
      receiving = subst (λ (n : ℕ). ReceivesSome a c m n p wakes told) (add-zero k) (subst (λ (n : ℕ). ReceivesSome a c m (k + 0) n wakes told) (add-zero p) (quietly a b c m k 0 p 0 wakes told [] h.receiving went only refl));
      late = λ d e. ap (λ w. w.reads) same ∙ h.late d (ap (λ w. w.last_got) (sym same) ∙ e);
      dries = λ d. dried_still a b c (ap (λ w. w.reads) same) (ap (λ w. w.last_got) same) (h.dries d);
      dry_fed = λ d. ap (λ x. x.unfed) conn ∙ h.dry_fed d;
      sound = no_fault_then a b c 0 0 refl only h.sound;
      after_end = h.after_end;
      few_lines = h.few_lines;
      few_reads = h.few_reads;
      few_bytes = h.few_bytes;
    }

-- ---- the calls of the link that were made

pub made_none : (a : Wire) → MadeReads a a 0
made_none a = record { reads = omega arith; writes = refl; failures = omega arith }

made_only : (b c : Snapshot) (n q : ℕ) → n ≤ 1 → OnlyReads b c n q → MadeReads b.wire c.wire 1
made_only b c n q few only = record { reads = omega (arith, only.reads_are, few); writes = only.writes; failures = omega (arith, only.failures, few) }

-- a step makes one at most
pub made_step : (b c : Snapshot) (how : Step) → ReceivesStep b c how → MadeReads b.wire c.wire 1
made_step b c (step.Said said) s = made_only b c s.reads _ s.few s.only
made_step b c (step.Drained said piece) s = subst (λ (w : Wire). MadeReads b.wire w 1) (sym s.rest.wire) (made_only b s.between s.says.reads _ s.says.few s.says.only)
made_step b c (step.Read bytes) s = made_only b c s.reads _ s.few s.only
made_step b c step.Dry s = made_only b c s.reads _ s.few s.only
made_step b c step.Waits s = made_only b c s.reads _ s.few s.only
made_step b c step.Done s = made_only b c s.reads _ s.few s.only
made_step b c (step.Ends state) s = made_only b c s.reads _ s.few s.only

-- and one that said lines none
pub made_said : (b c : Snapshot) (how : Step) (said : Said) → how ≡ step.Said said → ReceivesStep b c how → MadeReads b.wire c.wire 0
made_said b c how said is found =
    let s : ReceivesNext b c (step.Said said) = subst (λ (x : Step). ReceivesStep b c x) is found in
    record { reads = omega (arith, s.only.reads_are, s.step_is.0); writes = s.only.writes; failures = omega (arith, s.only.failures, s.step_is.0) }

pub made_then : (a b c : Wire) (m n k : ℕ) → MadeReads a b m → MadeReads b c n → m + n ≤ k → MadeReads a c k
made_then a b c m n k h l few = record { reads = omega (arith, h.reads, l.reads, few); writes = l.writes ∙ h.writes; failures = omega (arith, h.failures, l.failures, few) }

pub made_may_go_on : (a b : Wire) (n : ℕ) → IsFresh a → MadeReads a b n → n ≤ 16 → MayGoOn b
made_may_go_on a b n fresh h few = record { reads = omega (arith, fresh.reads, h.reads, few); writes = omega (arith, fresh.writes, h.writes); failures = omega (arith, fresh.failures, h.failures, few) }

pub made_may_send : (a b : Wire) (n : ℕ) → IsFresh a → MadeReads a b n → n ≤ 16 → MaySend b 16
made_may_send a b n fresh h few = record { reads_place = omega (arith, fresh.reads, h.reads, few); writes_place = omega (arith, fresh.writes, h.writes); failures_place = omega (arith, fresh.failures, h.failures, few) }

-- behind one step more
pub last_may_send : (a b c : Wire) (n : ℕ) → IsFresh a → MadeReads a b n → MadeReads b c 1 → n < 16 → MaySend c 16
last_may_send a b c n fresh h k few = made_may_send a c (n + 1) fresh (made_then a b c n 1 (n + 1) h k (omega arith)) (omega (arith, few))

-- ---- where receiving ends

ended : (a c : Snapshot) (m k p : ℕ) (share : Share) (wakes : ℕ) (how : ReceiveState) → m ≤ 64 → k ≤ 16 → p ≤ 65536 → (a.wire.last_got ≡ Some got.End → k ≡ 0) → (h : ReceivesSome a c m k p wakes share.told) → ReceivedIs a c share h.says.talk how
    → Receives a c share how wakes
ended a c m k p share wakes how few_lines few few_bytes after_end h is = record {
  talk = h.says.talk;
  went = h.says.went;
  own = h.says.said.own;
  calm = h.says.said.calm;
  lines = omega (arith, h.says.said.lines_are, few_lines);
  only_lines = h.says.said.only ∙ sym h.says.said.lines_are;
  reads = k;
  few = few;
  after_end = after_end;
  bytes = p;
  few_bytes = few_bytes;
  only = h.only;
  wakes_are = h.says.said.wakes_are;
  told_is = h.told_is;
  received_is = is;
}

-- nothing was drained behind it
pub alone : (a c : Snapshot) (share : Share) (how : ReceiveState) (wakes : ℕ) → Receives a c share how wakes → ReceivesThenDrains a c share how wakes None
alone a c share how wakes h = record { between = c; receives = h; behind = refl }

-- by a step that gave no bytes and said no line
stops : (a b c : Snapshot) (m k p : ℕ) (share : Share) (wakes : ℕ) (dry : Bool) (how : Step) (state : ReceiveState) → k < 16 → IsReceiving a b m k p wakes share.told dry → (s : ReceivesNext b c how) → bytes_of how ≡ 0 → s.talk ≡ []
    → ((talk : List Moment) → CountsTold share.told talk → ReceivedIs a c share talk state) → Receives a c share state wakes
stops a b c m k p share wakes dry how state few h s no_bytes none is =
    let all : ReceivesSome a c m (k + s.reads) p wakes share.told =
    subst (λ (n : ℕ). ReceivesSome a c m (k + s.reads) n wakes share.told) (ap (λ n. p + n) no_bytes ∙ add-zero p) (quietly a b c m k s.reads p (bytes_of how) wakes share.told s.talk h.receiving s.went s.only none) in
    ended a c m (k + s.reads) p share wakes state h.few_lines (omega (arith, few, s.few)) h.few_bytes (end_stays a b c k s.reads p h.receiving.only h.after_end s.may_read) all (is all.says.talk all.told_is)

since_last : (a b c : Snapshot) → a.wire.reads ≤ b.wire.reads → (c.wire.last_got ≡ Some got.End) ⊎ ((c.wire.last_got ≡ Some got.Later) × (b.wire.reads < c.wire.reads))
    → (c.wire.last_got ≡ Some got.End) ⊎ ((c.wire.last_got ≡ Some got.Later) × (a.wire.reads < c.wire.reads))
since_last a b c rises (inl end) = inl end
since_last a b c rises (inr later) = inr (later.0, omega (arith, rises, later.1))

-- all is received since an earlier place too
since : (a b c : Snapshot) → a.wire.reads ≤ b.wire.reads → IsAllReceived b c → IsAllReceived a c
since a b c rises h = record { fed = h.fed; nothing = h.nothing; last = since_last a b c rises h.last }

rises : (a b : Snapshot) (k p : ℕ) → OnlyReads a b k p → a.wire.reads ≤ b.wire.reads
rises a b k p only = omega (arith, only.reads_are)

receives_all : (a b c : Snapshot) (m k p : ℕ) (share : Share) (wakes : ℕ) (dry : Bool) (how : Step) → how ≡ (step.Ends receive.All) → k < 16 → IsReceiving a b m k p wakes share.told dry → ReceivesStep b c how → Receives a c share receive.All wakes
receives_all a b c m k p share wakes dry how is few h found =
    let s : ReceivesNext b c (step.Ends receive.All) = subst (λ (x : Step). ReceivesStep b c x) is found in
    stops a b c m k p share wakes dry (step.Ends receive.All) receive.All few h s refl s.step_is.0 (λ talk counts. (λ _. no_fault_all b c s.step_is.1, since a b c (rises a b k p h.receiving.only) s.step_is.1))

receives_stop : (a b c : Snapshot) (m k p : ℕ) (share : Share) (wakes : ℕ) (dry : Bool) (how : Step) → how ≡ (step.Ends receive.Stop) → k < 16 → IsReceiving a b m k p wakes share.told dry → ReceivesStep b c how → Receives a c share receive.Stop wakes
receives_stop a b c m k p share wakes dry how is few h found =
    let s : ReceivesNext b c (step.Ends receive.Stop) = subst (λ (x : Step). ReceivesStep b c x) is found in
    stops a b c m k p share wakes dry (step.Ends receive.Stop) receive.Stop few h s refl s.step_is.0 (λ talk counts. s.step_is.1)

-- without a read in between there is the same to receive since an earlier place
to_receive : (a b c : Snapshot) → (b.wire.last_got ≡ Some got.Later → b.wire.reads ≡ a.wire.reads) → c.wire.last_got ≡ b.wire.last_got → HasToReceive b c → HasToReceive a c
to_receive a b c late still (has_bytes some unspoilt) = has_bytes some unspoilt
to_receive a b c late still (has_line h) = has_line h
to_receive a b c late still (has_more h) = has_more (record { fed = h.fed; nothing = h.nothing; on = h.on; sound = h.sound; late = λ e. h.late e ∙ late (sym still ∙ e) })

receives_memory : (a b c : Snapshot) (m k p : ℕ) (share : Share) (wakes : ℕ) (before : Left) (how : Step) → how ≡ (step.Ends receive.Memory) → k < 16 → StaysWithin before c.conn.session how → IsReceiving a b m k p wakes share.told before.is_dry
    → ReceivesStep b c how → Receives a c share receive.Memory wakes
receives_memory a b c m k p share wakes before how is few within h found =
    let s : ReceivesNext b c (step.Ends receive.Memory) = subst (λ (x : Step). ReceivesStep b c x) is found in
    let line : before.is_dry ≡ true → HasLineNext c.conn.session = subst (λ (x : Step). StaysWithin before c.conn.session x) is within in
    stops a b c m k p share wakes before.is_dry (step.Ends receive.Memory) receive.Memory few h s refl s.step_is.0
    (λ talk counts. (no_fault_then a b c s.reads 0 s.step_is.1 s.only h.sound, left a b c before.is_dry h.late (s.only.still s.step_is.1) line s.step_is.2))
  where
    left : (a b c : Snapshot) (dry : Bool) → (dry ≡ false → b.wire.last_got ≡ Some got.Later → b.wire.reads ≡ a.wire.reads) → c.wire.last_got ≡ b.wire.last_got → (dry ≡ true → HasLineNext c.conn.session) → HasToReceive b c → HasToReceive a c
    left a b c true late still line h = has_line (line refl)
    left a b c false late still line h = to_receive a b c (late refl) still h

-- where memory was refused behind some lines
pub receives_refused : (a b c : Snapshot) (m k p : ℕ) (share : Share) (wakes told : ℕ) (before : Left) (said : Said) (all : ℕ) (how : Step) → how ≡ step.Said said → said.refused ≡ true → before.lines ≡ 64 - m → StaysWithin before c.conn.session how
    → IsReceiving a b m k p wakes told before.is_dry → ReceivesStep b c how
    → ((home : ℕ) → has_home all home ≡ (has_home wakes home || has_home said.wakes home)) → Adds told said.told share.told
    → ReceivesThenDrains a c share receive.Memory all None
receives_refused a b c m k p share wakes told before said all how is refused left_is within h found both adds =
    let s : ReceivesNext b c (step.Said said) = subst (λ (x : Step). ReceivesStep b c x) is found in
    let fits = said_within before c.conn.session how said is within in
    alone a c share receive.Memory all (ended a c (m + said.lines) k p share all receive.Memory (lines_fit m before said h.few_lines left_is fits.0) h.few_reads h.few_bytes h.after_end (receiving_said a b c m k p wakes told said all share.told h.receiving s both adds)
    (no_fault_then a b c s.reads 0 s.step_is.0 s.only h.sound, has_line (stays_next before.lines before.told c.conn.session fits.1.0 said fits.1.1 refused)))

-- where the turn told enough
spent_of : (share : Share) (talk : List Moment) → CountsTold share.told talk → left_of share ≡ Some 0 → IsSpent share talk
spent_of share talk counts none = record { met = met_of share.allowance none; said = said_of talk counts share.allowance none }
  where
    met_of : (allowance : Option ℕ) → option_map (λ most. most - share.told) allowance ≡ Some 0 → HasTold allowance share.told
    met_of None e = absurd (cc (e))
    met_of (Some most) e = let spent : most - share.told ≡ 0 = cc (e) in omega (arith, spent)

    said_of : (talk : List Moment) → CountsTold share.told talk → (allowance : Option ℕ) → option_map (λ most. most - share.told) allowance ≡ Some 0
        → (talk ≢ []) ⊎ (allowance ≡ Some 0)
    said_of [] counts None e = absurd (cc (e))
    said_of [] counts (Some most) e =
        let spent : most - share.told ≡ 0 = cc (e) in
        let untold : share.told ≡ 0 = counts (omega arith) in
        let none : most ≡ 0 = omega (arith, spent, untold) in
        inr (ap (λ n. Some n) none)
    said_of (m ∷ talk) counts allowance e = inl (λ none. absurd (cc (none)))

receives_enough : (a b c : Snapshot) (m k p : ℕ) (share : Share) (wakes : ℕ) (before : Left) (how : Step) → before.told ≡ left_of share → how ≡ (step.Ends receive.Again) → k < 16
    → StaysWithin before c.conn.session how → IsReceiving a b m k p wakes share.told before.is_dry → ReceivesStep b c how → Receives a c share receive.Again wakes
receives_enough a b c m k p share wakes before how same is few within h found =
    let s : ReceivesNext b c (step.Ends receive.Again) = subst (λ (x : Step). ReceivesStep b c x) is found in
    let none : left_of share ≡ Some 0 = sym same ∙ subst (λ (x : Step). StaysWithin before c.conn.session x) is within in
    stops a b c m k p share wakes before.is_dry (step.Ends receive.Again) receive.Again few h s refl s.step_is.0
    (λ talk counts. (no_fault_then a b c s.reads 0 s.step_is.1 s.only h.sound, record { limit = most_told (spent_of share talk counts none) s.step_is.3; fed = s.step_is.2; unspoilt = line_is_sound c.conn.session (loud_is_line c.conn.session s.step_is.3) }))

-- where a step ends it
pub receives_ends : (a b c : Snapshot) (m k p : ℕ) (share : Share) (wakes : ℕ) (before : Left) (how : Step) (state : ReceiveState) → before.told ≡ left_of share → how ≡ step.Ends state → k < 16 → StaysWithin before c.conn.session how
    → IsReceiving a b m k p wakes share.told before.is_dry → ReceivesStep b c how → ReceivesThenDrains a c share state wakes None
receives_ends a b c m k p share wakes before how receive.All same is few within h found = alone a c share receive.All wakes (receives_all a b c m k p share wakes before.is_dry how is few h found)
receives_ends a b c m k p share wakes before how receive.Again same is few within h found = alone a c share receive.Again wakes (receives_enough a b c m k p share wakes before how same is few within h found)
receives_ends a b c m k p share wakes before how receive.Stop same is few within h found = alone a c share receive.Stop wakes (receives_stop a b c m k p share wakes before.is_dry how is few h found)
receives_ends a b c m k p share wakes before how receive.Memory same is few within h found = alone a c share receive.Memory wakes (receives_memory a b c m k p share wakes before how is few within h found)

-- all is received where no line is left and the link had nothing more before
pub receives_done : (a b c : Snapshot) (m k p : ℕ) (share : Share) (wakes : ℕ) (before : Left) (how : Step) → how ≡ step.Done → k < 16 → StaysWithin before c.conn.session how → IsReceiving a b m k p wakes share.told before.is_dry → ReceivesStep b c how
    → ReceivesThenDrains a c share receive.All wakes None
receives_done a b c m k p share wakes before how is few within h found =
    let s : ReceivesNext b c step.Done = subst (λ (x : Step). ReceivesStep b c x) is found in
    let dry : before.is_dry ≡ true = subst (λ (x : Step). StaysWithin before c.conn.session x) is within in
    let dried = dried_still a b c (reads_still b c s.reads 0 s.step_is.1 s.only) (s.only.still s.step_is.1) (h.dries dry) in
    let all : IsAllReceived a c = record { fed = s.step_is.2; nothing = s.step_is.3; last = dried } in
    alone a c share receive.All wakes (stops a b c m k p share wakes before.is_dry step.Done receive.All few h s refl s.step_is.0 (λ talk counts. (λ _. no_fault_all a c all, all)))

-- and where the hold of the last lines drained too
pub receives_drained : (a b c : Snapshot) (m k p : ℕ) (share : Share) (wakes told : ℕ) (before : Left) (said : Said) (piece : Chunk) (all : ℕ) (how : Step) → how ≡ step.Drained said piece → before.lines ≡ 64 - m
    → (before.is_dry ≡ true → c.conn.unfed ≡ []) → StaysWithin before c.conn.session how → IsReceiving a b m k p wakes told before.is_dry → ReceivesStep b c how
    → ((home : ℕ) → has_home all home ≡ (has_home wakes home || has_home said.wakes home)) → Adds told said.told share.told
    → ReceivesThenDrains a c share receive.All all (Some piece)
receives_drained a b c m k p share wakes told before said piece all how is left_is fed within h found both adds =
    let d : SaysAndDrains b c said piece = subst (λ (x : Step). ReceivesStep b c x) is found in
    let fits : IsWithin before.lines said × (before.is_dry ≡ true) = subst (λ (x : Step). StaysWithin before c.conn.session x) is within in
    let e = d.between in
    let s = d.says in
    let dried = dried_still a b e (reads_still b e s.reads 0 s.step_is.0 s.only) (s.only.still s.step_is.0) (h.dries fits.1) in
    let is_all : IsAllReceived a e = record { fed = sym d.rest.unfed ∙ fed fits.1; nothing = d.rest.nothing; last = dried } in
    record {
      between = e;
      receives = ended a e (m + said.lines) k p share all receive.All (lines_fit m before said h.few_lines left_is fits.0) h.few_reads h.few_bytes h.after_end (receiving_said a b e m k p wakes told said all share.told h.receiving s both adds)
          (λ _. no_fault_all a e is_all, is_all);
      behind = d.rest;
    }

-- at a limit
most_are : (a c : Snapshot) (m k p : ℕ) (share : Share) (wakes : ℕ) → (m ≡ 64) ⊎ ((k ≡ 16) ⊎ (p ≡ 65536)) → (h : ReceivesSome a c m k p wakes share.told) → IsMost a c share h.says.talk
most_are a c m k p share wakes (inl lines) h = most_lines (h.says.said.lines_are ∙ lines)
most_are a c m k p share wakes (inr (inl reads)) h = most_reads (h.only.reads_are ∙ ap (λ n. a.wire.reads + n) reads)
most_are a c m k p share wakes (inr (inr bytes)) h = most_bytes (omega (arith, h.only.reads_are, h.only.at_once, bytes)) (subst (λ (n : ℕ). ReadsBytes a.wire c.wire n) bytes h.only.bytes_are)

limit_is : (a c : Snapshot) (m k p : ℕ) (share : Share) (wakes : ℕ) (how : ReceiveState) → (m ≡ 64) ⊎ ((k ≡ 16) ⊎ (p ≡ 65536)) → NoReadFailed a c → (h : ReceivesSome a c m k p wakes share.told) → LimitIs c.conn how → ReceivedIs a c share h.says.talk how
limit_is a c m k p share wakes receive.All met sound h limit = absurd limit
limit_is a c m k p share wakes receive.Again met sound h limit = (sound, record { limit = most_are a c m k p share wakes met h; fed = limit.0; unspoilt = limit.1 })
limit_is a c m k p share wakes receive.Stop met sound h limit = inl limit
limit_is a c m k p share wakes receive.Memory met sound h limit = (sound, has_bytes limit.0 limit.1)

met : (m k p : ℕ) → m ≤ 64 → k ≤ 16 → p ≤ 65536 → (64 ≤ m) ⊎ ((16 ≤ k) ⊎ (65536 ≤ p)) → (m ≡ 64) ⊎ ((k ≡ 16) ⊎ (p ≡ 65536))
met m k p few_lines few few_bytes (inl many) = inl (omega (arith, many, few_lines))
met m k p few_lines few few_bytes (inr (inl many)) = inr (inl (omega (arith, many, few)))
met m k p few_lines few few_bytes (inr (inr many)) = inr (inr (omega (arith, many, few_bytes)))

pub receives_limit : (a b c : Snapshot) (m k p : ℕ) (share : Share) (wakes : ℕ) (dry : Bool) (how : ReceiveState) → (64 ≤ m) ⊎ ((16 ≤ k) ⊎ (65536 ≤ p)) → IsReceiving a b m k p wakes share.told dry → Went b c [] → c.wire ≡ b.wire → c.conn.unwritten ≡ b.conn.unwritten
    → LimitIs c.conn how → ReceivesThenDrains a c share how wakes None
receives_limit a b c m k p share wakes dry how many h went same unwritten limit =
    let only : OnlyReads b c 0 0 = only_none b c same unwritten in
    let all : ReceivesSome a c m k p wakes share.told =
    subst (λ (n : ℕ). ReceivesSome a c m n p wakes share.told) (add-zero k) (subst (λ (n : ℕ). ReceivesSome a c m (k + 0) n wakes share.told) (add-zero p) (quietly a b c m k 0 p 0 wakes share.told [] h.receiving went only refl)) in
    alone a c share how wakes (ended a c m k p share wakes how h.few_lines h.few_reads h.few_bytes h.after_end all
    (limit_is a c m k p share wakes how (met m k p h.few_lines h.few_reads h.few_bytes many) (no_fault_then a b c 0 0 refl only h.sound) all limit))

-- ---- single steps

next_quiet : (a c : Snapshot) (n : ℕ) (how : Step) → n ≤ 1 → (0 < n → MayRead a) → Went a c [] → OnlyReads a c n (bytes_of how) → StepIs a c [] n how → ReceivesNext a c how
next_quiet a c n how few may went only is = record { talk = []; went = went; reads = n; few = few; may_read = may; only = only; step_is = is }

-- without a read
unasked : (a : Snapshot) → 0 < 0 → MayRead a
unasked a some = absurd (omega (arith, some))

step_behind : (a b c : Snapshot) (talk : List Moment) (reads : ℕ) (how : Step) → b.wire ≡ a.wire → b.conn.unwritten ≡ a.conn.unwritten → b.conn.session.client ≡ a.conn.session.client → OnlyReads b c reads (bytes_of how)
    → StepIs b c talk reads how → StepIs a c talk reads how
step_behind a b c talk reads (step.Said said) same unwritten client only is = (is.0, subst (λ (d : ℕ). AreSaid d talk said.lines said.wakes 0 said.told) client is.1)
step_behind a b c talk reads (step.Drained said piece) same unwritten client only is = absurd is
step_behind a b c talk reads step.Waits same unwritten client only is = is
step_behind a b c talk reads step.Dry same unwritten client only is = is
step_behind a b c talk reads step.Done same unwritten client only is = is
step_behind a b c talk reads (step.Ends receive.Again) same unwritten client only is = is
step_behind a b c talk reads (step.Read bytes) same unwritten client only is = is
step_behind a b c talk reads (step.Ends receive.All) same unwritten client only is = (is.0, since a b c (rises a b 0 0 (only_none a b same unwritten)) is.1)
step_behind a b c talk reads (step.Ends receive.Stop) same unwritten client only is = is
step_behind a b c talk reads (step.Ends receive.Memory) same unwritten client only is = (is.0, is.1, to_receive a b c (λ _. ap (λ w. w.reads) same) (only.still is.1) is.2)

-- a step behind feeding
pub fed_first : (a b c : Snapshot) (how : Step) → Went a b [] → b.wire ≡ a.wire → b.conn.unwritten ≡ a.conn.unwritten → ReceivesNext b c how → ReceivesNext a c how
fed_first a b c how went same unwritten s = record {
  talk = s.talk;
  went = went_then a b c [] s.talk went s.went;
  reads = s.reads;
  few = s.few;
  may_read = λ some.
      let may : MayRead b = s.may_read some in
      record { on = λ e. may.on (ap (λ w. w.last_got) same ∙ e); sound = λ e. may.sound (ap (λ w. w.last_got) same ∙ e) };
  only =
      subst (λ (n : ℕ). OnlyReads a c n (bytes_of how)) (zero-add s.reads) (
      subst (λ (n : ℕ). OnlyReads a c (0 + s.reads) n) (zero-add (bytes_of how)) (only_then a b c 0 s.reads 0 (bytes_of how) (only_none a b same unwritten) s.only));
  step_is = step_behind a b c s.talk s.reads how same unwritten went.client s.only s.step_is;
}

pub said_next : (a b : Snapshot) (said : Said) → b.wire ≡ a.wire → SaysLines a b said.lines said.wakes 0 said.told → ReceivesNext a b (step.Said said)
said_next a b said same s = record {
  talk = s.talk;
  went = s.went;
  reads = 0;
  few = omega arith;
  may_read = unasked a;
  only = only_none a b same s.unwritten;
  step_is = (refl, s.said);
}

-- and one that may drain
pub step_fed_first : (a b c : Snapshot) (how : Step) → Went a b [] → b.wire ≡ a.wire → b.conn.unwritten ≡ a.conn.unwritten → ReceivesStep b c how → ReceivesStep a c how
step_fed_first a b c (step.Said said) went same unwritten s = fed_first a b c (step.Said said) went same unwritten s
step_fed_first a b c (step.Drained said piece) went same unwritten s = record { between = s.between; says = fed_first a b s.between (step.Said said) went same unwritten s.says; rest = s.rest }
step_fed_first a b c (step.Read bytes) went same unwritten s = fed_first a b c (step.Read bytes) went same unwritten s
step_fed_first a b c step.Waits went same unwritten s = fed_first a b c step.Waits went same unwritten s
step_fed_first a b c step.Dry went same unwritten s = fed_first a b c step.Dry went same unwritten s
step_fed_first a b c step.Done went same unwritten s = fed_first a b c step.Done went same unwritten s
step_fed_first a b c (step.Ends state) went same unwritten s = fed_first a b c (step.Ends state) went same unwritten s

-- lines were said, and nothing was drained behind them, or something was
pub said_step : (a b : Snapshot) (said : Said) → SaysThenDrains a b said None → ReceivesStep a b (step.Said said)
said_step a b said s = said_next a b said (ap (λ x. x.wire) s.behind ∙ s.wire) (subst (λ x. SaysLines a x said.lines said.wakes 0 said.told) (sym s.behind) s.says)

pub drained_step : (a b : Snapshot) (said : Said) (piece : Chunk) → SaysThenDrains a b said (Some piece) → ReceivesStep a b (step.Drained said piece)
drained_step a b said piece s = record { between = s.between; says = said_next a s.between said s.wire s.says; rest = s.behind }

pub waits : (a b : Snapshot) → b.wire ≡ a.wire → b.conn.unwritten ≡ a.conn.unwritten → Went a b [] → ReceivesNext a b step.Waits
waits a b same unwritten went = next_quiet a b 0 step.Waits (omega arith) (unasked a) went (only_none a b same unwritten) (refl, refl)

-- a hold drains only where it is to
pub drained_dry : (dry : Bool) (o : Option Chunk) (piece : Chunk) → (dry ≡ false → o ≡ None) → o ≡ Some piece → dry ≡ true
drained_dry true o piece only some = refl
drained_dry false o piece only some = absurd (cc (only refl, some))

-- what was drained is there to be written
pub came_of : (a b : Snapshot) (drained : Option Chunk) → DrainsBehind a b drained → IfSome drained (λ piece. piece.dry ≡ false → b.conn.unwritten ≢ [])
came_of a b None d = tt
came_of a b (Some piece) d = d.came

pub none_done : (a b : Snapshot) → b.wire ≡ a.wire → b.conn.unwritten ≡ a.conn.unwritten → Went a b [] → HasToReceive a b → ReceivesNext a b (step.Ends receive.Memory)
none_done a b same unwritten went left = next_quiet a b 0 (step.Ends receive.Memory) (omega arith) (unasked a) went (only_none a b same unwritten) (refl, refl, left)

pub put_off : (a b : Snapshot) → b.wire ≡ a.wire → b.conn.unwritten ≡ a.conn.unwritten → Went a b [] → b.conn.unfed ≡ [] → HasLoudNext b.conn.session → ReceivesNext a b (step.Ends receive.Again)
put_off a b same unwritten went fed next = next_quiet a b 0 (step.Ends receive.Again) (omega arith) (unasked a) went (only_none a b same unwritten) (refl, refl, fed, next)

pub none_left : (a b : Snapshot) → b.wire ≡ a.wire → b.conn.unwritten ≡ a.conn.unwritten → Went a b [] → IsNextOf (Some b.conn.session) Spoilt → ReceivesNext a b (step.Ends receive.Stop)
none_left a b same unwritten went next = next_quiet a b 0 (step.Ends receive.Stop) (omega arith) (unasked a) went (only_none a b same unwritten) (refl, inl next)

pub only_one : (a b : Snapshot) (n : ℕ) → ReadsBytes a.wire b.wire n → n ≤ 16384 → b.wire.reads ≡ a.wire.reads + 1 → b.wire.writes ≡ a.wire.writes → b.wire.failures ≤ a.wire.failures + 1 → b.conn.unwritten ≡ a.conn.unwritten → OnlyReads a b 1 n
only_one a b n bytes few reads writes failures unwritten = record { reads_are = reads; bytes_are = bytes; at_once = omega (arith, few); writes = writes; failures = failures; still = λ e. absurd (omega (arith, e)); unwritten = unwritten }

-- a read gave so many bytes
pub read_bytes : (a b : Wire) (m n : ℕ) → m ≡ n → ReadsBytes a b m → ReadsBytes a b n
read_bytes a b m n same = subst (λ (k : ℕ). ReadsBytes a b k) same

pub fits : (m n : ℕ) → m ≡ n → m ≤ 16384 → n ≤ 16384
fits m n same = subst (λ (k : ℕ). k ≤ 16384) same

pub stays_nothing : (a b : Serving) → b ≡ a → IsNextOf (Some a) Nothing → IsNextOf (Some b) Nothing
stays_nothing a b same nothing = subst (λ (x : Serving). IsNextOf (Some x) Nothing) (sym same) nothing

pub done : (a b : Snapshot) → b.wire ≡ a.wire → b.conn.unwritten ≡ a.conn.unwritten → Went a b [] → b.conn.unfed ≡ [] → IsNextOf (Some b.conn.session) Nothing → ReceivesNext a b step.Done
done a b same unwritten went fed nothing = next_quiet a b 0 step.Done (omega arith) (unasked a) went (only_none a b same unwritten) (refl, refl, fed, nothing)

-- a link that gave bytes may be read
pub gave_may : (a : Snapshot) → GaveBytes a.wire → MayRead a
gave_may a gave = record { on = λ e. absurd (cc (gave.1, e)); sound = λ e. absurd (cc (gave.1, e)) }

pub link_dry : (a b : Snapshot) → MayRead a → Went a b [] → OnlyReads a b 1 0 → b.conn ≡ a.conn → a.conn.unfed ≡ [] → (b.wire.last_got ≡ Some got.Later) ⊎ (b.wire.last_got ≡ Some got.End) → ReceivesNext a b step.Dry
link_dry a b may went only same fed last = next_quiet a b 1 step.Dry (omega arith) (λ _. may) went only (refl, refl, ap (λ x. x.unfed) same ∙ fed, last)

pub link_read : (a b : Snapshot) (n : ℕ) → MayRead a → Went a b [] → OnlyReads a b 1 n → b.wire.last_got ≡ Some (got.Bytes n) → ReceivesNext a b (step.Read n)
link_read a b n may went only some = next_quiet a b 1 (step.Read n) (omega arith) (λ _. may) went only (refl, refl, some)

pub link_later : (a b : Snapshot) → MayRead a → IsNextOf (Some b.conn.session) Nothing → Went a b [] → OnlyReads a b 1 0 → b.conn ≡ a.conn → a.conn.unfed ≡ []
    → b.wire.last_got ≡ Some got.Later → ReceivesNext a b (step.Ends receive.All)
link_later a b may nothing went only same fed last = next_quiet a b 1 (step.Ends receive.All) (omega arith) (λ _. may) went only (
  refl,
  record {
    fed = ap (λ x. x.unfed) same ∙ fed;
    nothing = nothing;
    last = inr (last, omega (arith, only.reads_are));
  },
)

pub link_end : (a b : Snapshot) → MayRead a → IsNextOf (Some b.conn.session) Nothing → Went a b [] → OnlyReads a b 1 0 → b.conn ≡ a.conn → a.conn.unfed ≡ []
    → b.wire.last_got ≡ Some got.End → ReceivesNext a b (step.Ends receive.All)
link_end a b may nothing went only same fed last = next_quiet a b 1 (step.Ends receive.All) (omega arith) (λ _. may) went only (
  refl,
  record {
    fed = ap (λ x. x.unfed) same ∙ fed;
    nothing = nothing;
    last = inl last;
  },
)

pub link_fault : (a b : Snapshot) → MayRead a → Went a b [] → OnlyReads a b 1 0 → b.wire.last_got ≡ Some got.Fault → ReceivesNext a b (step.Ends receive.Stop)
link_fault a b may went only last = next_quiet a b 1 (step.Ends receive.Stop) (omega arith) (λ _. may) went only (refl, inr last)

-- the link had ended, or failed, before
pub ended_before : (a : Snapshot) → a.conn.unfed ≡ [] → IsNextOf (Some a.conn.session) Nothing → a.wire.last_got ≡ Some got.End → ReceivesNext a a (step.Ends receive.All)
ended_before a fed nothing last = next_quiet a a 0 (step.Ends receive.All) (omega arith) (unasked a) (went_none a) (only_none a a refl refl) (refl, record { fed = fed; nothing = nothing; last = inl last })

pub failed_before : (a : Snapshot) → a.wire.last_got ≡ Some got.Fault → ReceivesNext a a (step.Ends receive.Stop)
failed_before a last = next_quiet a a 0 (step.Ends receive.Stop) (omega arith) (unasked a) (went_none a) (only_none a a refl refl) (refl, inr last)
