-- What a turn did.
use Rattle.std.specs.Prelude.{◌≡◌, ◌≢◌, ◌⊎◌, ℕ, ◌+◌, ◌-◌, ◌*◌, ◌≤◌, true, false, ◌||◌, List, [], ◌∷◌, ◌++◌, length}
use Rattle.std.specs.Prelude.{Option, Some}
use Rattle.lobby_model.specs.declared.event.Event.TheVariants as event
use Rattle.lobby_model.specs.State.{State}
use Rattle.lobby_model.specs.Touched.{touches}
use Rattle.lobby_post.specs.Mask.{has_home}
use Rattle.lobby_machine.specs.Work.{told_on}
use Rattle.client_session.specs.declared.session.Next.TheVariants.{Nothing, Spoilt}
use Rattle.client_session.specs.OneSession.{IsNextOf}
use Rattle.lobby_holds.specs.declared.link.Got.TheVariants as got
use Rattle.lobby_holds.specs.declared.link.Sent.TheVariants as sent
use Rattle.lobby_holds.specs.declared.turn.Turn.{Turn}
use Rattle.lobby_holds.specs.declared.turn.TurnState.{TurnState}
use Rattle.lobby_holds.specs.declared.turn.TurnState.TheVariants as state
use Rattle.lobby_holds.specs.Wire.{ReadsSome}
use Rattle.lobby_holds.specs.Moments.{Moment, moment, requests, questions, touched, told_end}
use Rattle.lobby_holds.specs.Snapshot.{Snapshot}
use Rattle.lobby_holds.specs.Talk.{AreDrains, AreTalk}
use Rattle.lobby_holds.specs.Went.{Went}
use Rattle.lobby_holds.specs.Holds.{HasNoSpoiltNext}
use Rattle.lobby_turns.specs.declared.serving.Progress.{Progress}
use Rattle.lobby_turns.specs.Receiving.{CountsTold, IsAtStage, IsAllReceived, HasToReceive, NoReadFailed, ReceivesMost}
use Rattle.lobby_turns.specs.Receiving.{Share}
use Rattle.lobby_turns.specs.Sending.{IsAllSent, IsWrittenOut, MustWait, NoWriteFailed, SendsMost}

-- all that came was said to the lobby, and the link has no more, ever
pub record HasEnded (at : Snapshot) : Type 0 where
  pub fed : at.conn.unfed ≡ []
  pub nothing : IsNextOf (Some at.conn.session) Nothing
  pub last : at.wire.last_got ≡ Some got.End

-- no drain of the turn said that nothing will ever come of its client, no spoilt place is next, and no call of its link
-- failed
pub record GoesOn (old new : Snapshot) (talk : List Moment) : Type 0 where
  pub calm : told_end talk ≡ false
  pub unspoilt : HasNoSpoiltNext new.conn.session
  pub read : NoReadFailed old new
  pub written : NoWriteFailed old new

-- A client is shut where the lobby said that nothing will ever come of it, and what was drained for it is written out;
-- where the lobby did not, its stream is spoilt at this place, or its link failed, or it has ended and has been sent
-- everything
pub data MayShut (old at : Snapshot) (talk : List Moment) : Type 0 where
  finished : told_end talk ≡ true → IsWrittenOut old at 16 → MayShut old at talk
  spoilt : told_end talk ≡ false → IsNextOf (Some at.conn.session) Spoilt → MayShut old at talk
  unread : told_end talk ≡ false → at.wire.last_got ≡ Some got.Fault → MayShut old at talk
  unsent : told_end talk ≡ false → at.wire.last_sent ≡ Some sent.Fault → MayShut old at talk
  ended : told_end talk ≡ false → HasEnded at → IsAllSent at talk → MayShut old at talk

-- how far a turn received: all that the link has now, or as much as a turn may
pub data HasReceived (old new : Snapshot) (share : Share) (talk : List Moment) : Type 0 where
  received_all : IsAllReceived old new → HasReceived old new share talk
  received_most : ReceivesMost old new share talk → HasReceived old new share talk

-- how far a turn sent: all that there is, until its last write was taken in no part, or as much as a turn may
pub data HasSent (old new : Snapshot) (talk : List Moment) : Type 0 where
  sent_all : IsAllSent new talk → HasSent old new talk
  put_off : MustWait old new → HasSent old new talk
  sent_most : SendsMost old new → HasSent old new talk

-- Nothing more can be done now: all that came was said to the lobby, and the link has no more, or said so in this turn;
-- and the turn's last write was taken in no part, or the client has been sent everything and may still say more
pub record IsIdle (old new : Snapshot) (talk : List Moment) : Type 0 where
  pub received : IsAllReceived old new
  pub sent : MustWait old new ⊎ (IsAllSent new talk × (new.wire.last_got ≢ Some got.End))

-- a turn came to a limit of receiving, and then sent as far as it could; or it received all, and came to the limit of
-- sending
pub data IsAtLimit (old new : Snapshot) (share : Share) (talk : List Moment) : Type 0 where
  of_receiving : ReceivesMost old new share talk → HasSent old new talk → IsAtLimit old new share talk
  of_sending : IsAllReceived old new → SendsMost old new → IsAtLimit old new share talk

-- Memory was refused to the half of a turn that receives, or to a piece that was to be drained; the other half went as
-- far as it could, or was refused memory too
pub data IsShort (old new : Snapshot) (share : Share) (talk : List Moment) : Type 0 where
  to_receive : HasToReceive old new → HasSent old new talk ⊎ (new.conn.unwritten ≡ []) → IsShort old new share talk
  to_drain : HasReceived old new share talk → new.conn.unwritten ≡ [] → IsShort old new share talk

-- memory was refused to a turn that goes on, or to the shut of its client
pub data TakesMemory (old new : Snapshot) (share : Share) (talk : List Moment) : Type 0 where
  to_go_on : GoesOn old new talk → IsShort old new share talk → TakesMemory old new share talk
  to_shut : MayShut old new talk → TakesMemory old new share talk

-- how a turn ended: by shutting its client, or without one event more
abbrev pub Ends : Snapshot → Snapshot → Share → List Moment → List Moment → TurnState → Type 0
Ends old new share talk end state.Idle = (end ≡ []) × GoesOn old new talk × IsIdle old new talk
Ends old new share talk end state.Again = (end ≡ []) × GoesOn old new talk × IsAtLimit old new share talk
Ends old new share talk end state.Closed = (met : State) × (end ≡ moment met (event.Shut new.conn.session.client) ∷ [])
    × MayShut old new talk
Ends old new share talk end state.Memory = (end ≡ []) × TakesMemory old new share talk

-- behind all that was said, client c was drained into an empty slice, which tells whether nothing will ever come of it
abbrev pub IsAsked : ℕ → List Moment → Type 0
IsAsked c talk =
    (said : List Moment) × (met : State) × (drains : List Moment)
    × (talk ≡ said ++ moment met (event.Drain c 0) ∷ drains) × AreDrains c drains

-- A turn: the client's next lines were said to the lobby and bytes were drained for it, and then it ended. Where
-- drained bytes waited to be written, and only there, the lobby was asked once whether the client is finished. The
-- woken workers are those whose clients its events touched. It may tell so much before it puts a line off, if there
-- is a bound, and told so much
pub record Turned (old new : Snapshot) (allowance : Option ℕ) (turn : Turn) (told : ℕ) : Type 0 where
  pub talk : List Moment
  pub end : List Moment
  pub went : Went old new (talk ++ end)
  pub own : AreTalk new.conn.session.client talk
  pub asked : old.conn.unwritten ≢ [] → IsAsked new.conn.session.client talk
  pub unasked : old.conn.unwritten ≡ [] → questions talk ≡ []
  pub once : length (questions talk) ≤ 1
  pub share : Share
  pub allowed : share.allowance ≡ allowance
  pub ends : Ends old new share talk end turn.state
  pub told_is : CountsTold told (talk ++ end)
  pub share_is : CountsTold share.told talk
  pub lines : length (requests talk) ≤ 64
  pub drains : length talk ≤ length (requests talk) + 136
  pub reads : new.wire.reads ≤ old.wire.reads + 16
  pub pieces : ReadsSome old.wire new.wire 65536
  pub at_once : ReadsSome old.wire new.wire (16384 * (new.wire.reads - old.wire.reads))
  pub after_end : old.wire.last_got ≡ Some got.End → new.wire.reads ≡ old.wire.reads
  pub writes : new.wire.writes ≤ old.wire.writes + 16
  pub wakes_are : (home : ℕ) → has_home turn.wakes home ≡ touched (talk ++ end) home

-- a turn that may be finished: so much of it is behind
abbrev pub IsUnderway : Snapshot → Snapshot → Progress → Type 0
IsUnderway old at progress = IsAtStage old at progress.allowance progress.stage

-- the client was shut, or memory was refused and nothing was done; the workers are woken that were to be woken before,
-- and those that the shut touched; and so much was told
abbrev pub ClosesTo : Snapshot → Snapshot → ℕ → ℕ → ℕ → TurnState → Type 0
ClosesTo old new wakes more told state.Closed =
    (met : State) × Went old new (moment met (event.Shut old.conn.session.client) ∷ [])
    × ((home : ℕ) → has_home more home ≡ (has_home wakes home || touches met (event.Shut old.conn.session.client) home))
    × (told_on 0 met (event.Shut old.conn.session.client) ≡ told)
ClosesTo old new wakes more told state.Memory = Went old new [] × (more ≡ wakes) × (told ≡ 0)
ClosesTo old new wakes more told state.Idle = ⊥
ClosesTo old new wakes more told state.Again = ⊥

abbrev pub Closes : Snapshot → Snapshot → ℕ → Turn → ℕ → Type 0
Closes old new wakes turn told = ClosesTo old new wakes turn.wakes told turn.state
