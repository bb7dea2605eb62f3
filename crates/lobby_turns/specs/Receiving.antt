-- What receiving from a client did.
use Rattle.std.specs.Prelude.{◌≡◌, ◌≢◌, ◌⊎◌, ℕ, ◌+◌, ◌-◌, ◌*◌, ◌^◌, ◌<◌, ◌≤◌, Bool, true, false, List, []}
use Rattle.std.specs.Prelude.{length, Option, Some}
use Rattle.std.specs.Option.{option_map}
use Rattle.lobby_lock.specs.Passes.{ShownPass}
use Rattle.lobby_post.specs.Mask.{has_home}
use Rattle.client_session.specs.declared.session.Next.TheVariants.{Nothing, Spoilt}
use Rattle.client_session.specs.OneSession.{IsNextOf, HasLineNext}
use Rattle.client_session.specs.Serving.{Serving}
use Rattle.lobby_holds.specs.declared.link.Got.TheVariants as got
use Rattle.lobby_turns.specs.declared.receiving.ReceiveState.{ReceiveState}
use Rattle.lobby_turns.specs.declared.receiving.ReceiveState.TheVariants as receive
use Rattle.lobby_turns.specs.declared.receiving.Left.{Left}
use Rattle.lobby_turns.specs.declared.receiving.Step.{Step}
use Rattle.lobby_turns.specs.declared.receiving.Step.TheVariants as step
use Rattle.lobby_turns.specs.declared.receiving.Stage.{Stage}
use Rattle.lobby_turns.specs.declared.receiving.Stage.TheVariants as stage
use Rattle.lobby_holds.specs.Wire.{Wire, ReadsBytes}
use Rattle.lobby_holds.specs.Moments.{Moment, requests, touched, told_end, work_of}
use Rattle.lobby_holds.specs.Snapshot.{Carried, Snapshot}
use Rattle.lobby_holds.specs.Talk.{AreTalk}
use Rattle.lobby_holds.specs.Went.{JoinedAmong, Went}
use Rattle.lobby_holds.specs.declared.holds.Chunk.{Chunk}
use Rattle.lobby_holds.specs.declared.holds.Said.{Said}
use Rattle.lobby_holds.specs.Holds.{AreSaid, DrainsBehind, DrainsRest, IsWithin, SaysLines}
use Rattle.lobby_holds.specs.Holds.{HasNoSpoiltNext, HasLoudNext, HasTold, StopsAt}

-- So many reads were made, of so many bytes in all and 16,384 at most, and no write, and each failed at most once.
-- Without a read its last answer is as it was. What is to be written is as it was
pub record OnlyReads (old new : Snapshot) (reads bytes : ℕ) : Type 0 where
  pub reads_are : new.wire.reads ≡ old.wire.reads + reads
  pub bytes_are : ReadsBytes old.wire new.wire bytes
  pub at_once : bytes ≤ 16384 * reads
  pub writes : new.wire.writes ≡ old.wire.writes
  pub failures : new.wire.failures ≤ old.wire.failures + reads
  pub still : reads ≡ 0 → new.wire.last_got ≡ old.wire.last_got
  pub unwritten : new.conn.unwritten ≡ old.conn.unwritten

-- All that was read was fed, and no line of it is left; and the link has nothing more, ever, or said just now that it
-- has nothing yet
pub record IsAllReceived (old new : Snapshot) : Type 0 where
  pub fed : new.conn.unfed ≡ []
  pub nothing : IsNextOf (Some new.conn.session) Nothing
  pub last : (new.wire.last_got ≡ Some got.End)
      ⊎ ((new.wire.last_got ≡ Some got.Later) × (old.wire.reads < new.wire.reads))

-- the stream is spoilt at this place, or the link failed
abbrev pub IsOver : Snapshot → Type 0
IsOver new = IsNextOf (Some new.conn.session) Spoilt ⊎ (new.wire.last_got ≡ Some got.Fault)

-- All that was read was fed, and nothing of it is next; and the link neither has ended nor failed, and did not say just
-- now that it has nothing yet
pub record MayHaveMore (old new : Snapshot) : Type 0 where
  pub fed : new.conn.unfed ≡ []
  pub nothing : IsNextOf (Some new.conn.session) Nothing
  pub on : new.wire.last_got ≢ Some got.End
  pub sound : new.wire.last_got ≢ Some got.Fault
  pub late : new.wire.last_got ≡ Some got.Later → new.wire.reads ≡ old.wire.reads

-- no read failed since
abbrev pub NoReadFailed : Snapshot → Snapshot → Type 0
NoReadFailed old new = old.wire.reads < new.wire.reads → new.wire.last_got ≢ Some got.Fault

-- how much a turn may tell, where there is a bound, and how much its lines told
pub record Share : Type 0 where
  pub allowance : Option ℕ
  pub told : ℕ

abbrev pub share_of : Option ℕ → ℕ → Share
share_of allowance told = record { allowance = allowance; told = told }

-- what is left of it
abbrev pub left_of : Share → Option ℕ
left_of share = option_map (λ most. most - share.told) share.allowance

-- as much was told as may be: something was said, or nothing may be told
pub record IsSpent (share : Share) (talk : List Moment) : Type 0 where
  pub met : HasTold share.allowance share.told
  pub said : (talk ≢ []) ⊎ (share.allowance ≡ Some 0)

-- the count is what was told, as far as a number of 64 bits can tell
abbrev pub CountsTold : ℕ → List Moment → Type 0
CountsTold told talk = work_of talk < 2 ^ 64 → told ≡ work_of talk

-- 64 lines were said to the lobby, or 16 reads were made, or 65,536 bytes were read, in four reads at least, or as much
-- was told as may be and a line is next that is not quiet
pub data IsMost (old new : Snapshot) (share : Share) (talk : List Moment) : Type 0 where
  most_lines : length (requests talk) ≡ 64 → IsMost old new share talk
  most_reads : new.wire.reads ≡ old.wire.reads + 16 → IsMost old new share talk
  most_bytes : old.wire.reads + 4 ≤ new.wire.reads → ReadsBytes old.wire new.wire 65536 → IsMost old new share talk
  most_told : IsSpent share talk → HasLoudNext new.conn.session → IsMost old new share talk

-- it came to one of these limits; and all that was read was fed, and no spoilt place is next
pub record ReceivesMost (old new : Snapshot) (share : Share) (talk : List Moment) : Type 0 where
  pub limit : IsMost old new share talk
  pub fed : new.conn.unfed ≡ []
  pub unspoilt : HasNoSpoiltNext new.conn.session

-- Receiving from a client takes memory where bytes are to be fed and no spoilt place is next, where a line is next, and
-- where the link may have more
pub data HasToReceive (old new : Snapshot) : Type 0 where
  has_bytes : new.conn.unfed ≢ [] → HasNoSpoiltNext new.conn.session → HasToReceive old new
  has_line : HasLineNext new.conn.session → HasToReceive old new
  has_more : MayHaveMore old new → HasToReceive old new

-- the last read gave bytes
abbrev pub GaveBytes : Wire → Type 0
GaveBytes wire = (n : ℕ) × (wire.last_got ≡ Some (got.Bytes n))

-- a link is read only where it neither has ended nor failed
pub record MayRead (old : Snapshot) : Type 0 where
  pub on : old.wire.last_got ≢ Some got.End
  pub sound : old.wire.last_got ≢ Some got.Fault

-- a step that said lines said as many as were left at most, in one hold, and stopped before for want of a line, of
-- memory or of place in the hold alone, or where nothing was left of what it might tell; and there alone a line was put
-- off. A read gave as many bytes as were left at most. Once the link had nothing more, no step reads it, and one that
-- drains comes only then
abbrev pub StaysWithin : Left → Serving → Step → Type 0
StaysWithin left session (step.Said said) =
    IsWithin left.lines said × ((events : ℕ) × StopsAt left.lines left.told session events said)
StaysWithin left session (step.Drained said piece) = IsWithin left.lines said × (left.is_dry ≡ true)
StaysWithin left session (step.Ends receive.Again) = left.told ≡ Some 0
StaysWithin left session (step.Read bytes) = (bytes ≤ left.bytes) × (left.is_dry ≡ false)
StaysWithin left session step.Dry = left.is_dry ≡ false
StaysWithin left session step.Waits = Unit {0}
StaysWithin left session step.Done = left.is_dry ≡ true
StaysWithin left session (step.Ends receive.All) = Unit {0}
StaysWithin left session (step.Ends receive.Stop) = Unit {0}
StaysWithin left session (step.Ends receive.Memory) = left.is_dry ≡ true → HasLineNext session

-- how many bytes a step read
abbrev pub bytes_of : Step → ℕ
bytes_of (step.Said said) = 0
bytes_of (step.Drained said piece) = 0
bytes_of step.Dry = 0
bytes_of step.Waits = 0
bytes_of step.Done = 0
bytes_of (step.Read bytes) = bytes
bytes_of (step.Ends state) = 0

-- what a step did, in so many reads
abbrev pub StepIs : Snapshot → Snapshot → List Moment → ℕ → Step → Type 0
StepIs old new talk reads (step.Said said) =
    (reads ≡ 0) × AreSaid old.conn.session.client talk said.lines said.wakes 0 said.told
StepIs old new talk reads (step.Drained said piece) = ⊥
StepIs old new talk reads step.Dry =
    (talk ≡ []) × (reads ≡ 1) × (new.conn.unfed ≡ [])
    × ((new.wire.last_got ≡ Some got.Later) ⊎ (new.wire.last_got ≡ Some got.End))
StepIs old new talk reads step.Waits = (talk ≡ []) × (reads ≡ 0)
StepIs old new talk reads step.Done =
    (talk ≡ []) × (reads ≡ 0) × (new.conn.unfed ≡ []) × IsNextOf (Some new.conn.session) Nothing
StepIs old new talk reads (step.Ends receive.Again) =
    (talk ≡ []) × (reads ≡ 0) × (new.conn.unfed ≡ []) × HasLoudNext new.conn.session
StepIs old new talk reads (step.Read bytes) = (talk ≡ []) × (reads ≡ 1) × (new.wire.last_got ≡ Some (got.Bytes bytes))
StepIs old new talk reads (step.Ends receive.All) = (talk ≡ []) × IsAllReceived old new
StepIs old new talk reads (step.Ends receive.Stop) = (talk ≡ []) × IsOver new
StepIs old new talk reads (step.Ends receive.Memory) = (talk ≡ []) × (reads ≡ 0) × HasToReceive old new

pub record ReceivesNext (old new : Snapshot) (step : Step) : Type 0 where
  pub talk : List Moment
  pub went : Went old new talk
  pub reads : ℕ
  pub few : reads ≤ 1
  pub may_read : 0 < reads → MayRead old
  pub only : OnlyReads old new reads (bytes_of step)
  pub step_is : StepIs old new talk reads step

-- lines were said, and behind them the client was drained
pub record SaysAndDrains (old new : Snapshot) (said : Said) (piece : Chunk) : Type 0 where
  pub between : Snapshot
  pub says : ReceivesNext old between (step.Said said)
  pub rest : DrainsRest between new piece

abbrev pub ReceivesStep : Snapshot → Snapshot → Step → Type 0
ReceivesStep old new (step.Drained said piece) = SaysAndDrains old new said piece
ReceivesStep old new (step.Said said) = ReceivesNext old new (step.Said said)
ReceivesStep old new (step.Read bytes) = ReceivesNext old new (step.Read bytes)
ReceivesStep old new step.Dry = ReceivesNext old new step.Dry
ReceivesStep old new step.Waits = ReceivesNext old new step.Waits
ReceivesStep old new step.Done = ReceivesNext old new step.Done
ReceivesStep old new (step.Ends state) = ReceivesNext old new (step.Ends state)

-- how far a turn received that came to a limit: on to the next turn, or to a spoilt place, or until memory was refused
-- to what was read
abbrev pub LimitIs : Carried → ReceiveState → Type 0
LimitIs conn receive.All = ⊥
LimitIs conn receive.Again = (conn.unfed ≡ []) × HasNoSpoiltNext conn.session
LimitIs conn receive.Stop = IsNextOf (Some conn.session) Spoilt
LimitIs conn receive.Memory = (conn.unfed ≢ []) × HasNoSpoiltNext conn.session

-- how far a turn received from the client
abbrev pub ReceivedIs : Snapshot → Snapshot → Share → List Moment → ReceiveState → Type 0
ReceivedIs old new share talk receive.All = NoReadFailed old new × IsAllReceived old new
ReceivedIs old new share talk receive.Again = NoReadFailed old new × ReceivesMost old new share talk
ReceivedIs old new share talk receive.Stop = IsOver new
ReceivedIs old new share talk receive.Memory = NoReadFailed old new × HasToReceive old new

pub record Receives (old new : Snapshot) (share : Share) (state : ReceiveState) (wakes : ℕ) : Type 0 where
  pub talk : List Moment
  pub went : Went old new talk
  pub own : AreTalk old.conn.session.client talk
  pub calm : told_end talk ≡ false
  pub lines : length (requests talk) ≤ 64
  pub only_lines : length talk ≡ length (requests talk)
  pub reads : ℕ
  pub few : reads ≤ 16
  pub after_end : old.wire.last_got ≡ Some got.End → reads ≡ 0
  pub bytes : ℕ
  pub few_bytes : bytes ≤ 65536
  pub only : OnlyReads old new reads bytes
  pub wakes_are : (home : ℕ) → has_home wakes home ≡ touched talk home
  pub told_is : CountsTold share.told talk
  pub received_is : ReceivedIs old new share talk state

-- it received from the client, and may have drained for it in the last hold
pub record ReceivesThenDrains (old new : Snapshot) (share : Share) (state : ReceiveState) (wakes : ℕ)
    (drained : Option Chunk) : Type 0 where
  pub between : Snapshot
  pub receives : Receives old between share state wakes
  pub behind : DrainsBehind between new drained

-- ---- a turn that still receives

-- So many lines were said to the lobby, so many reads were made, of so many bytes in all, these workers are to be
-- woken, and so much was told
pub record ReceivesSome (old new : Snapshot) (lines reads bytes wakes told : ℕ) : Type 0 where
  pub sum : ℕ
  pub says : SaysLines old new lines wakes 0 sum
  pub told_is : CountsTold told says.talk
  pub only : OnlyReads old new reads bytes

-- the link said since that it has nothing more now, or has ended
abbrev pub HasDried : Snapshot → Snapshot → Type 0
HasDried old new =
    (new.wire.last_got ≡ Some got.End)
    ⊎ ((new.wire.last_got ≡ Some got.Later) × (old.wire.reads < new.wire.reads))

-- it did so within the limits of a turn, no read failed, and the link has dried or may have more
pub record IsReceiving (old new : Snapshot) (lines reads bytes wakes told : ℕ) (dry : Bool) : Type 0 where
  pub receiving : ReceivesSome old new lines reads bytes wakes told
  pub late : dry ≡ false → new.wire.last_got ≡ Some got.Later → new.wire.reads ≡ old.wire.reads
  pub dries : dry ≡ true → HasDried old new
  pub dry_fed : dry ≡ true → new.conn.unfed ≡ []
  pub sound : NoReadFailed old new
  pub after_end : old.wire.last_got ≡ Some got.End → reads ≡ 0
  pub few_lines : lines ≤ 64
  pub few_reads : reads ≤ 16
  pub few_bytes : bytes ≤ 65536

-- where the half of a turn stands that receives, and may tell so much, if there is a bound
abbrev pub IsAtStage : Snapshot → Snapshot → Option ℕ → Stage → Type 0
IsAtStage old new allowance (stage.Receives at) =
    IsReceiving old new at.lines at.reads at.bytes at.all.wakes at.all.told at.is_dry
IsAtStage old new allowance (stage.Received state all drained) =
    ReceivesThenDrains old new (share_of allowance all.told) state all.wakes drained

abbrev pub IsReceived : Stage → Type 0
IsReceived (stage.Receives at) = ⊥
IsReceived (stage.Received state all drained) = Unit {0}

-- so many reads were made at most, and no write
pub record MadeReads (old new : Wire) (most : ℕ) : Type 0 where
  pub reads : new.reads ≤ old.reads + most
  pub writes : new.writes ≡ old.writes
  pub failures : new.failures ≤ old.failures + most

-- ---- what others see of a connection that is served

-- its client is the same, and between these passes the worker made events that speak for that client, and no others
pub record IsServed (old new : Carried) (p q : ShownPass) : Type 0 where
  pub client : new.session.client ≡ old.session.client
  pub turn : List Moment
  pub joined : JoinedAmong [] old.session.client p q turn
