-- What sending to a client did.
use Rattle.std.specs.Prelude.{◌≡◌, ◌≢◌, ℕ, ◌+◌, ◌-◌, ◌*◌, ◌^◌, ◌<◌, ◌≤◌, true, false, List, []}
use Rattle.std.specs.Prelude.{length, Option, Some, None}
use Rattle.lobby_holds.specs.declared.link.Sent.{Sent}
use Rattle.lobby_holds.specs.declared.link.Sent.TheVariants as sent
use Rattle.lobby_turns.specs.declared.sending.SendState.{SendState}
use Rattle.lobby_turns.specs.declared.sending.SendState.TheVariants as send
use Rattle.lobby_holds.specs.Wire.{Wire}
use Rattle.lobby_holds.specs.Moments.{Moment, questions, told_end}
use Rattle.lobby_holds.specs.Snapshot.{Snapshot}
use Rattle.lobby_holds.specs.Talk.{AreDrains, BeginsWith, EndsDry}
use Rattle.lobby_holds.specs.Went.{Went}

-- so many more writes may be made, each of which may fail
pub record MaySend (wire : Wire) (writes : ℕ) : Type 0 where
  pub reads_place : wire.reads < 2 ^ 64 - 1
  pub writes_place : wire.writes + writes ≤ 2 ^ 64 - 1
  pub failures_place : wire.failures + writes ≤ 2 ^ 64 - 1

-- So many writes were made and no read, and each failed at most once. Without a write its last answer is as it was.
-- What was received is as it was
pub record OnlyWrites (old new : Snapshot) (writes : ℕ) : Type 0 where
  pub writes_are : new.wire.writes ≡ old.wire.writes + writes
  pub reads : new.wire.reads ≡ old.wire.reads
  pub read : new.wire.read ≡ old.wire.read
  pub failures : new.wire.failures ≤ old.wire.failures + writes
  pub last_got : new.wire.last_got ≡ old.wire.last_got
  pub still : writes ≡ 0 → new.wire.last_sent ≡ old.wire.last_sent
  pub session : new.conn.session ≡ old.conn.session
  pub unfed : new.conn.unfed ≡ old.conn.unfed

-- no write failed since
abbrev pub NoWriteFailed : Snapshot → Snapshot → Type 0
NoWriteFailed old new = old.wire.writes < new.wire.writes → new.wire.last_sent ≢ Some sent.Fault

-- nothing of it shuts the client: no drain said that nothing will ever come of it, and no write failed
pub record IsSound (old new : Snapshot) (talk : List Moment) : Type 0 where
  pub calm : told_end talk ≡ false
  pub no_fault : NoWriteFailed old new

-- all that was drained for the client was written, and a piece that was then drained gave nothing
pub record IsAllSent (new : Snapshot) (talk : List Moment) : Type 0 where
  pub written : new.conn.unwritten ≡ []
  pub dry : EndsDry new.conn.session.client talk

-- the last write was made just now, and the link took nothing
pub record MustWait (old new : Snapshot) : Type 0 where
  pub last : new.wire.last_sent ≡ Some sent.Later
  pub made : old.wire.writes < new.wire.writes

-- 16 writes were made
abbrev pub SendsMost : Snapshot → Snapshot → Type 0
SendsMost old new = new.wire.writes ≡ old.wire.writes + 16

-- what a step did, in so many writes
abbrev pub StepIs : Snapshot → Snapshot → List Moment → ℕ → SendState → Type 0
StepIs old new talk writes send.Again = IsSound old new talk × (writes ≡ 1)
StepIs old new talk writes send.All = IsSound old new talk × IsAllSent new talk
StepIs old new talk writes send.WouldBlock = IsSound old new talk × MustWait old new
StepIs old new talk writes send.Finished = (told_end talk ≡ true) × (writes ≡ 0)
StepIs old new talk writes send.Fault = (told_end talk ≡ false) × (new.wire.last_sent ≡ Some sent.Fault)
StepIs old new talk writes send.Memory = (talk ≡ []) × (writes ≡ 0) × (new.conn.unwritten ≡ [])

pub record SendsNext (old new : Snapshot) (state : SendState) : Type 0 where
  pub talk : List Moment
  pub went : Went old new talk
  pub own : AreDrains old.conn.session.client talk
  pub no_question : questions talk ≡ []
  pub drains : length talk ≤ 8
  pub writes : ℕ
  pub few : writes ≤ 1
  pub only : OnlyWrites old new writes
  pub step_is : StepIs old new talk writes state

-- the link did not take what was last written
abbrev pub IsStop : Option Sent → Type 0
IsStop None = ⊥
IsStop (Some (sent.Took n)) = ⊥
IsStop (Some sent.Later) = Unit {0}
IsStop (Some sent.Fault) = Unit {0}

-- all that was drained was written, or the last write was put off or failed, or so many were made
pub data IsWrittenOut (old new : Snapshot) (most : ℕ) : Type 0 where
  all_written : new.conn.unwritten ≡ [] → IsWrittenOut old new most
  stopped : old.wire.writes < new.wire.writes → IsStop new.wire.last_sent → IsWrittenOut old new most
  spent : new.wire.writes ≡ old.wire.writes + most → IsWrittenOut old new most

-- what was drained was written, without an event
pub record Writes (old new : Snapshot) (most : ℕ) : Type 0 where
  pub went : Went old new []
  pub writes : ℕ
  pub few : writes ≤ most
  pub only : OnlyWrites old new writes
  pub out : IsWrittenOut old new most

-- Where drained bytes wait to be written, it first asks once with an empty slice whether nothing will ever come of the
-- client; where none wait, it never does
pub record AsksFirst (old : Snapshot) (talk : List Moment) : Type 0 where
  pub waiting : old.conn.unwritten ≢ [] → BeginsWith old.conn.session.client 0 talk
  pub written : old.conn.unwritten ≡ [] → questions talk ≡ []
  pub once : length (questions talk) ≤ 1

-- so many writes were made, and no drain said that nothing will come
pub record Sending (old new : Snapshot) (writes : ℕ) : Type 0 where
  pub talk : List Moment
  pub went : Went old new talk
  pub own : AreDrains old.conn.session.client talk
  pub asks : AsksFirst old talk
  pub drains : length talk ≤ 8 + 8 * writes
  pub sound : IsSound old new talk
  pub only : OnlyWrites old new writes

-- behind a first step as many writes may be made as are left
abbrev pub MaySendOn : Wire → SendState → Type 0
MaySendOn wire send.Finished = MaySend wire 16
MaySendOn wire send.Again = MaySend wire 15
MaySendOn wire send.All = Unit {0}
MaySendOn wire send.WouldBlock = Unit {0}
MaySendOn wire send.Fault = Unit {0}
MaySendOn wire send.Memory = Unit {0}

-- how far a turn sent to the client
abbrev pub SentIs : Snapshot → Snapshot → List Moment → SendState → Type 0
SentIs old new talk send.All = IsSound old new talk × IsAllSent new talk
SentIs old new talk send.WouldBlock = IsSound old new talk × MustWait old new
SentIs old new talk send.Again = IsSound old new talk × SendsMost old new
SentIs old new talk send.Finished = (told_end talk ≡ true) × IsWrittenOut old new 16
SentIs old new talk send.Fault = (told_end talk ≡ false) × (new.wire.last_sent ≡ Some sent.Fault)
SentIs old new talk send.Memory = IsSound old new talk × (new.conn.unwritten ≡ [])

pub record Sends (old new : Snapshot) (state : SendState) : Type 0 where
  pub talk : List Moment
  pub went : Went old new talk
  pub own : AreDrains old.conn.session.client talk
  pub asks : AsksFirst old talk
  pub drains : length talk ≤ 136
  pub writes : ℕ
  pub few : writes ≤ 16
  pub only : OnlyWrites old new writes
  pub sent_is : SentIs old new talk state
