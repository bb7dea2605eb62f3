-- What is noted of the turns of a worker's connections.
use Rattle.std.specs.Prelude.{◌≡◌, ℕ, true, false, List, map, slice_index_or, Option, Some, None}
use Rattle.slab.specs.Slab.{Slab, slab_len}
use Rattle.lobby_connections.specs.declared.seat.Claim.{Claim}
use Rattle.lobby_connections.specs.declared.seat.Seat.{Seat}

-- the note under a key, where there is a connection
abbrev pub note_at : List (Option Claim) → ℕ → Option Claim
note_at claims key = slice_index_or claims key None

-- the note under this key changes so, and no other does
pub record Changes (old new : List (Option Claim)) (key : ℕ) (f : Option Claim → Option Claim) : Type 0 where
  pub changed : note_at new key ≡ f (note_at old key)
  pub others : (other : ℕ) → (other ≡ key → ⊥) → note_at new other ≡ note_at old other

-- how a note changes, where there is one
abbrev pub noted : (Claim → Claim) → Option Claim → Option Claim
noted f None = None
noted f (Some c) = Some (f c)

-- the connection is to get a turn; it had one; it waits among those who are left over, and is to get a turn; it does so
-- no more
abbrev pub owing : Claim → Claim
owing c = record c { owes = true }

abbrev pub had_turn : Claim → Claim
had_turn c = record c { owes = false }

abbrev pub left_over : Claim → Claim
left_over c = record c { owes = true; is_left = true }

abbrev pub called_up : Claim → Claim
called_up c = record c { is_left = false }

-- a connection comes, which is to get its first turn; it goes
abbrev pub come : Option Claim → Option Claim
come _ = Some (record { owes = true; is_left = false })

abbrev pub gone : Option Claim → Option Claim
gone _ = None

-- the note of the connection in a seat
abbrev pub claim_in : Option Seat → Option Claim
claim_in None = None
claim_in (Some seat) = Some seat.claim

-- the notes of the connections in these seats, by their keys
abbrev pub claims_of : Slab Seat → List (Option Claim)
claims_of seats = map claim_in seats.slots

-- as many connections, with room for as many
pub record SameSeats (old new : Slab Seat) : Type 0 where
  pub capacity : new.capacity ≡ old.capacity
  pub count : slab_len new ≡ slab_len old

-- the connection under a key is noted so, and else nothing changes
pub record Notes (old new : Slab Seat) (key : ℕ) (f : Claim → Claim) : Type 0 where
  pub claims : Changes (claims_of old) (claims_of new) key (noted f)
  pub seats : SameSeats old new

-- what is noted stays
pub record KeepsNotes (old new : Slab Seat) : Type 0 where
  pub claims : claims_of new ≡ claims_of old
  pub seats : SameSeats old new
