-- What a hold of a turn did.
use Rattle.std.specs.Prelude.{◌≡◌, ◌≢◌, ◌⊎◌, ℕ, ◌<◌, ◌≤◌, Bool, true, false, List, [], ◌∷◌, ◌++◌, length, take, Option}
use Rattle.std.specs.Prelude.{Some, None}
use Rattle.command_grammar.specs.declared.command.Command.{Command}
use Rattle.command_grammar.specs.declared.command.Command.TheVariants as command
use Rattle.command_grammar.specs.declared.command.Request.{Request}
use Rattle.lobby_model.specs.declared.event.Event.{Event}
use Rattle.lobby_model.specs.declared.event.Event.TheVariants as event
use Rattle.lobby_model.specs.State.{State}
use Rattle.lobby_post.specs.Mask.{has_home}
use Rattle.lobby_post.specs.Mail.{IsWakes}
use Rattle.lobby_machine.specs.Shown.{unread_of}
use Rattle.lobby_lock.specs.History.{after_history, made_by, Begins}
use Rattle.lobby_lock.specs.Rule.{seen_by}
use Rattle.lobby_lock.specs.Passes.{ShownPass, ShownHold, lobby_after}
use Rattle.client_session.specs.Serving.{Serving}
use Rattle.client_session.specs.declared.session.Next.TheVariants.{Line, Nothing, Spoilt}
use Rattle.client_session.specs.OneSession.{HasLineNext, IsNextOf}
use Rattle.client_session.specs.Sessions.{Heard, IsNext}
use Rattle.lobby_holds.specs.declared.conn.Ahead.{Ahead}
use Rattle.lobby_holds.specs.declared.conn.Ahead.TheVariants as ahead
use Rattle.lobby_holds.specs.declared.holds.Said.{Said}
use Rattle.lobby_holds.specs.declared.holds.Chunk.{Chunk}
use Rattle.lobby_holds.specs.Moments.{Moment, moment, requests, questions, drained_for, touched, tells_end, told_behind}
use Rattle.lobby_holds.specs.Moments.{told_end}
use Rattle.lobby_machine.specs.Work.{told_on}
use Rattle.lobby_holds.specs.Snapshot.{Snapshot}
use Rattle.lobby_holds.specs.Talk.{AreDrains, AreTalk, BeginsWith, EndsDry}
use Rattle.lobby_holds.specs.Went.{Joined, Went}

-- What it is where it begins: its worker has seen a longer history, in which the events under the worker's number are
-- those that it made, and no others; its lobby is the plain lobby after that history, and it has no event
pub record IsTaken (pass : ShownPass) (held : ShownHold) : Type 0 where
  pub pass_is : held.pass ≡ record pass { on_desk = held.lobby; worker = seen_by pass.worker held.pass.worker.seen }
  pub later : Begins pass.worker.seen held.pass.worker.seen
  pub own : made_by pass.worker.number held.pass.worker.seen ≡ pass.worker.mine
  pub known : made_by pass.worker.number pass.worker.seen ≡ pass.worker.mine
  pub stands : held.lobby.plain ≡ after_history pass.start held.pass.worker.seen
  pub fresh : held.events ≡ []

-- its lobby is the plain lobby after what its worker has seen and its events so far
abbrev pub Stands : ShownHold → Type 0
Stands held = held.lobby.plain ≡ lobby_after held.pass held.events

-- it made this event, which touched the clients of these workers, and a count of what was told went on by it
pub record Made (old new : Snapshot) (e : Event) (wakes before after : ℕ) : Type 0 where
  pub met : State
  pub went : Went old new (moment met e ∷ [])
  pub wakes_are : IsWakes met e wakes
  pub told_is : told_on before met e ≡ after

-- so many lines of client c were said to the lobby, they touched the clients of these workers, and a count of what was
-- told went on by them
pub record AreSaid (c : ℕ) (talk : List Moment) (lines wakes before after : ℕ) : Type 0 where
  pub own : AreTalk c talk
  pub calm : told_end talk ≡ false
  pub lines_are : length (requests talk) ≡ lines
  pub only : length talk ≡ lines
  pub wakes_are : (home : ℕ) → has_home wakes home ≡ touched talk home
  pub told_is : told_behind before talk ≡ after

-- it said so many of the next lines to the lobby
pub record SaysLines (old new : Snapshot) (lines wakes before after : ℕ) : Type 0 where
  pub talk : List Moment
  pub went : Went old new talk
  pub said : AreSaid old.conn.session.client talk lines wakes before after
  pub unwritten : new.conn.unwritten ≡ old.conn.unwritten

-- at most so many lines, and no more than one hold has place for; and one at least unless memory was refused
abbrev pub IsWithin : ℕ → Said → Type 0
IsWithin most said = (said.lines ≤ most) × (said.lines ≤ 32) × (said.refused ≡ false → 1 ≤ said.lines)

-- no spoilt place is next: a whole line stands before it, or there is none
abbrev pub HasNoSpoiltNext : Serving → Type 0
HasNoSpoiltNext session = (bytes : List ℕ) (accepted : ℕ) → Heard session.framed bytes accepted
    → IsNext bytes accepted Spoilt → ⊥

-- so much is known of what is next
abbrev pub IsAhead : Ahead → Serving → Type 0
IsAhead ahead.Line session = HasLineNext session
IsAhead ahead.Nothing session = IsNextOf (Some session) Nothing
IsAhead ahead.Spoilt session = IsNextOf (Some session) Spoilt

-- no whole line is next
abbrev pub HasNoLineNext : Serving → Type 0
HasNoLineNext session = IsNextOf (Some session) Nothing ⊎ IsNextOf (Some session) Spoilt

-- a command that tells its issuer alone, or one user more, and little
abbrev pub is_quiet : Command → Bool
is_quiet command.Ping = true
is_quiet (command.SayPrivate user text) = true
is_quiet command.Blank = true
is_quiet (command.Unread fault) = true
is_quiet other = false

-- a whole line is next that is not quiet
abbrev pub HasLoudNext : Serving → Type 0
HasLoudNext session = (request : Request) × IsNextOf (Some session) (Line request) × (is_quiet request.command ≡ false)

-- as much was told as may be, where there is a bound
abbrev pub HasTold : Option ℕ → ℕ → Type 0
HasTold None told = ⊥
HasTold (Some most) told = most ≤ told

-- Why it said no line more in a hold that has so many events: memory was refused for the line that is next, or nothing
-- was refused, and all that were asked for were said, no whole line is next, the hold is full, or as much was told as
-- may be and the line that is next is not quiet
pub data StopsAt (most : ℕ) (allowance : Option ℕ) (session : Serving) (events : ℕ) (said : Said) : Type 0 where
  short : said.refused ≡ true → HasLineNext session → StopsAt most allowance session events said
  all_said : said.refused ≡ false → said.lines ≡ most → StopsAt most allowance session events said
  none_left : said.refused ≡ false → HasNoLineNext session → StopsAt most allowance session events said
  full : said.refused ≡ false → 32 ≤ events → StopsAt most allowance session events said
  enough : said.refused ≡ false → HasTold allowance said.told → HasLoudNext session
      → StopsAt most allowance session events said

-- it drained for its client, eight times at most and never into an empty slice: whether nothing will ever come of it;
-- where it is dry, the last drain gave nothing
pub record Drains (old new : Snapshot) (finished dry : Bool) : Type 0 where
  pub talk : List Moment
  pub went : Went old new talk
  pub own : AreDrains old.conn.session.client talk
  pub few : length talk ≤ 8
  pub no_question : questions talk ≡ []
  pub finished_is : told_end talk ≡ finished
  pub dry_is : dry ≡ true → EndsDry old.conn.session.client talk

-- it drained where nothing is next and all that was drained before was written
pub record DrainsRest (old new : Snapshot) (piece : Chunk) : Type 0 where
  pub drains : Drains old new piece.finished piece.dry
  pub came : piece.dry ≡ false → new.conn.unwritten ≢ []
  pub written : old.conn.unwritten ≡ []
  pub nothing : IsNextOf (Some old.conn.session) Nothing
  pub session : new.conn.session ≡ old.conn.session
  pub unfed : new.conn.unfed ≡ old.conn.unfed
  pub wire : new.wire ≡ old.wire

-- it drained so behind what was said, or did nothing
abbrev pub DrainsBehind : Snapshot → Snapshot → Option Chunk → Type 0
DrainsBehind old new None = new ≡ old
DrainsBehind old new (Some piece) = DrainsRest old new piece

-- it said so many of the next lines to the lobby, and may have drained behind them
pub record SaysThenDrains (old new : Snapshot) (said : Said) (drained : Option Chunk) : Type 0 where
  pub between : Snapshot
  pub says : SaysLines old between said.lines said.wakes 0 said.told
  pub wire : between.wire ≡ old.wire
  pub unfed : between.conn.unfed ≡ old.conn.unfed
  pub behind : DrainsBehind between new drained

-- it drained into an empty slice and did nothing else, which tells whether nothing will ever come of its client
pub record Asks (old new : Snapshot) (finished : Bool) : Type 0 where
  pub met : State
  pub went : Went old new (moment met (event.Drain old.conn.session.client 0) ∷ [])
  pub finished_is : tells_end met (event.Drain old.conn.session.client 0) ≡ finished

-- nothing waits unread for client c, in the plain lobby after all that the pass has seen
abbrev pub HasNoneFor : ℕ → ShownPass → Type 0
HasNoneFor c pass = unread_of (after_history pass.start pass.worker.seen) c ≡ []

-- the same of a pass alone, for client c into a slice of n bytes: those that came stand at its front, and where fewer
-- came, these were all
pub record DrainedInto (old new : ShownPass) (c n : ℕ) (into : List ℕ) (piece : Chunk) : Type 0 where
  pub talk : List Moment
  pub joined : Joined old new talk
  pub own : AreDrains c talk
  pub begins : BeginsWith c n talk
  pub once : n ≡ 0 → begins.1 ≡ []
  pub no_question : 0 < n → questions talk ≡ []
  pub within : piece.count ≤ n
  pub few : piece.count ≤ length into
  pub bytes : take piece.count into ≡ drained_for c talk
  pub finished_is : told_end talk ≡ piece.finished
  pub dry_is : piece.dry ≡ true → 0 < n → EndsDry c talk
  pub came : piece.dry ≡ false → 0 < piece.count
  pub all : piece.count < n → HasNoneFor c new

-- the same behind what stands in a buffer
pub record DrainedBehind (old new : ShownPass) (c : ℕ) (before after : List ℕ) (piece : Chunk) : Type 0 where
  pub talk : List Moment
  pub joined : Joined old new talk
  pub own : AreDrains c talk
  pub no_question : questions talk ≡ []
  pub bytes : after ≡ before ++ drained_for c talk
  pub finished_is : told_end talk ≡ piece.finished
  pub dry_is : piece.dry ≡ true → EndsDry c talk
  pub came : piece.dry ≡ false → length before < length after

-- it drained for client c, and did nothing else, until nothing was left unread for that client, or 4 MiB were drained
pub record GivesUp (old new : ShownPass) (c : ℕ) : Type 0 where
  pub talk : List Moment
  pub joined : Joined old new talk
  pub own : AreDrains c talk
  pub enough : HasNoneFor c new ⊎ (4194304 ≤ length (drained_for c talk))
