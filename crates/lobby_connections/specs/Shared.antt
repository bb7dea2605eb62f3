-- What becomes of the turns of connections that share holds of the lobby.
use Rattle.std.specs.Prelude.{◌≡◌, ◌≢◌, ◌⊎◌, ℕ, ◌<◌, ◌≤◌, false, List, [], length, slice_index_or, Option, Some, None}
use Rattle.std.specs.List.{Contains}
use Rattle.std.specs.Option.{option_map}
use Rattle.slab.specs.Slab.{Slab, get, with_value}
use Rattle.lobby_lock.specs.Passes.{ShownPass}
use Rattle.lobby_holds.specs.Wire.{IsFresh}
use Rattle.lobby_holds.specs.Moments.{Moment}
use Rattle.lobby_holds.specs.Snapshot.{Snapshot, among}
use Rattle.lobby_holds.specs.Talk.{AreDrains}
use Rattle.lobby_holds.specs.Went.{JoinedAmong, Went}
use Rattle.lobby_holds.specs.declared.turn.Turn.{Turn}
use Rattle.lobby_holds.specs.declared.turn.TurnState.TheVariants as state
use Rattle.lobby_turns.specs.Receiving.{IsServed}
use Rattle.lobby_turns.specs.Turned.{IsUnderway, Turned}
use Rattle.lobby_connections.specs.Claims.{note_at}
use Rattle.lobby_connections.specs.Joined.{keys_in}
use Rattle.lobby_connections.specs.declared.connection.Connection.{Connection}
use Rattle.lobby_connections.specs.declared.seat.Claim.{Claim}
use Rattle.lobby_connections.specs.declared.seat.Seat.{Seat}
use Rattle.lobby_connections.specs.declared.together.Standing.{Standing}
use Rattle.lobby_connections.specs.declared.together.Standing.TheVariants as standing
use Rattle.lobby_connections.specs.declared.together.Together.{Together}

-- where a worker keeps its connections, by their keys
abbrev pub Seats : Type 0
Seats = Slab Seat

-- the client of a connection
abbrev pub client_of : Connection → ℕ
client_of c = c.conn.session.client

-- the client of the connection under a key, if there is one
abbrev pub client_at : Seats → ℕ → Option ℕ
client_at seats key = option_map (λ seat. client_of seat.connection) (get seats key)

-- a connection as its turn sees it, whose worker may serve these others meanwhile
abbrev pub seen : List ℕ → Connection → ShownPass → Snapshot
seen others c pass = among others c.conn c.link pass

-- A turn that began so came to this. If it wanted memory and its link is gone, what waited for its client may have been
-- drained behind it, and let go
pub record HadTurn (old : Snapshot) (new : Connection) (pass : ShownPass) (allowance : Option ℕ) (turn : Turn)
    (told : ℕ) : Type 0 where
  pub at : ShownPass
  pub turned : Turned old (seen old.others new at) allowance turn told
  pub behind : List Moment
  pub drains : AreDrains (client_of new) behind
  pub after : JoinedAmong old.others (client_of new) at pass behind
  pub only : turn.state ≢ state.Memory → behind ≡ []

-- it may tell no more than this
abbrev pub IsAllowed : ℕ → Option ℕ → Type 0
IsAllowed most allowance = (share : ℕ) × (allowance ≡ Some share) × (share ≤ most)

-- How the turn stands of a connection that was so when the turns began, and is so now: it has not begun; it has come so
-- far; or it was had, unless the connection was only to be shut, or its link has no room for a turn
abbrev pub StandsSo : List ℕ → Connection → ShownPass → Connection → ShownPass → ℕ → Standing → Type 0
StandsSo others old start new pass most standing.Waits =
    (new ≡ old) × Went (seen others old start) (seen others old pass) []
StandsSo others old start new pass most (standing.Underway progress) =
    (new.is_over ≡ old.is_over) × IsAllowed most progress.allowance
    × IsUnderway (seen others old start) (seen others new pass) progress
StandsSo others old start new pass most (standing.Over ended) =
    old.is_over ≡ false → IsFresh new.link
    → (allowance : Option ℕ) × IsAllowed most allowance
    × HadTurn (seen others old start) new pass allowance ended.turn ended.told

-- Client c is that of the connection in this place of those under these keys. The clients of all others are among
-- these, and none of them is c
abbrev pub AreOthers : Seats → List ℕ → ℕ → ℕ → List ℕ → Type 0
AreOthers seats keys place c others =
    (other d : ℕ) → other < length keys → other ≢ place → client_at seats (slice_index_or keys other 0) ≡ Some d
    → Contains others d × (c ≢ d)

-- Each of the turns stands so that began with these connections at this pass, where no two are of one client. Their
-- clients are the same
pub record AllStand (old : Seats) (start : ShownPass) (new : Seats) (pass : ShownPass) (most : ℕ) (keys : List ℕ)
    (standings : List Standing) : Type 0 where
  pub clients : (key : ℕ) → client_at new key ≡ client_at old key
  pub each : (place : ℕ) (seat : Seat) (others : List ℕ) → place < length keys
      → get old (slice_index_or keys place 0) ≡ Some seat
      → AreOthers old keys place (client_of seat.connection) others
      → (now : Seat) × (get new (slice_index_or keys place 0) ≡ Some now)
      × StandsSo others seat.connection start now.connection pass most (slice_index_or standings place standing.Waits)

-- the connection in a seat was served, and its turn went on
pub record Serves (start : ShownPass) (old : Connection) (pass : ShownPass) (new : Connection) (next : ShownPass)
    (most : ℕ) (before after : Standing) : Type 0 where
  pub serves : IsServed old.conn new.conn pass next
  pub goes : (others : List ℕ) (first : Connection) → StandsSo others first start old pass most before
      → StandsSo others first start new next most after

-- the same of the connection under a key, if there is one, and no other
pub record ServesAt (start : ShownPass) (old : Seats) (pass : ShownPass) (new : Seats) (next : ShownPass)
    (most key : ℕ) (before after : Standing) : Type 0 where
  pub none : get old key ≡ None → (new ≡ old) × (next ≡ pass)
  pub some : (seat : Seat) → get old key ≡ Some seat
      → (now : Seat) × (new ≡ with_value old key now)
      × Serves start seat.connection pass now.connection next most before after

-- Turns went on: those that stood so before stand so still, and no more is left to tell
pub record GoOn (old : Seats) (pass : ShownPass) (before : Together) (new : Seats) (next : ShownPass)
    (after : Together) : Type 0 where
  pub keys : keys_in after ≡ keys_in before
  pub less : after.allowance ≤ before.allowance
  pub stand : (first : Seats) (start : ShownPass) (most : ℕ) → before.allowance ≤ most
      → AllStand first start old pass most (keys_in before) before.standings
      → AllStand first start new next most (keys_in after) after.standings

abbrev pub IsOver : Standing → Type 0
IsOver standing.Waits = ⊥
IsOver (standing.Underway progress) = ⊥
IsOver (standing.Over ended) = Unit {0}

-- the turn was had of the connection in this place, if there is one
abbrev pub IsHad : List (Option Claim) → Together → ℕ → Type 0
IsHad claims together place =
    (note_at claims (slice_index_or (keys_in together) place 0) ≡ None)
    ⊎ IsOver (slice_index_or together.standings place standing.Waits)
