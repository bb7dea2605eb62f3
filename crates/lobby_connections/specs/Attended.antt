-- Who owes a turn, and who stands in line for one.
use Rattle.std.specs.Prelude.{◌≡◌, ◌⊎◌, ℕ, ◌<◌, ◌≤◌, true, false, if◌then◌else◌, List, [], slice_index_or}
use Rattle.std.specs.Prelude.{Some}
use Rattle.std.specs.List.{Contains}
use Rattle.lobby_post.specs.Mask.{has_home}
use Rattle.lobby_connections.specs.Claims.{note_at}
use Rattle.lobby_connections.specs.Table.{Table, due_count}
use Rattle.lobby_connections.specs.Timeouts.{StaysAwake}
use Rattle.lobby_connections.specs.declared.seat.Claim.{Claim}

-- there is a connection under this key
abbrev pub IsThere : Table → ℕ → Type 0
IsThere table key = (c : Claim) × (note_at table.claims key ≡ Some c)

-- the connection under this key is to get a turn: a poll told of it, it was named, it is new, or its last turn stopped
-- at a limit or for want of memory; and since then it had none
abbrev pub Owes : Table → ℕ → Type 0
Owes table key = (c : Claim) × (note_at table.claims key ≡ Some c) × (c.owes ≡ true)

-- the key of the one before whom so many are due
abbrev pub key_at : Table → ℕ → ℕ
key_at table k = if table.is_each_due then k else slice_index_or table.due k 0

-- this key is still to come among those who are due
abbrev pub IsDue : Table → ℕ → Type 0
IsDue table key = (k : ℕ) × (table.served ≤ k) × (k < due_count table) × (key_at table k ≡ key)

-- this key stands in line: for this round or for the next
abbrev pub InLine : Table → ℕ → Type 0
InLine table key = IsDue table key ⊎ (table.is_each_left ≡ true) ⊎ Contains table.left key

-- each who owes a turn stands in line or is named, but for these
abbrev pub AllBut : Table → List ℕ → Type 0
AllBut table rest = (key : ℕ) → Owes table key → InLine table key ⊎ Contains table.named key ⊎ Contains rest key

-- no other worker is to be woken
abbrev pub WakesNobody : Table → Type 0
WakesNobody table = (worker : ℕ) → has_home table.to_wake worker ≡ false

-- Each who owes a turn stands in line or is named, but for these, and each whom the lobby named was looked for. A turn
-- of a key takes it out of these, whether it was had alone or was one of several in a hold
pub record IsAttended (table : Table) (rest : List ℕ) : Type 0 where
  pub all : AllBut table rest
  pub called : table.called ≡ []

-- whoever is attended to stays so
abbrev pub KeepsAttended : Table → Table → Type 0
KeepsAttended old new = (rest : List ℕ) → IsAttended old rest → IsAttended new rest

-- nobody owes a turn; the lobby was asked for names and had none, or there was nobody whom it could name; each whom it
-- named was looked for; and no other worker is to be woken
pub record NobodyIsForgotten (table : Table) : Type 0 where
  pub attended : (key : ℕ) → Owes table key → ⊥
  pub asked : table.is_pending ≡ false
  pub called : table.called ≡ []
  pub woken : WakesNobody table

-- who owes a turn does so still, and nobody comes
pub record KeepsClaims (old new : Table) : Type 0 where
  pub owes : (key : ℕ) → Owes old key → Owes new key
  pub there : (key : ℕ) → IsThere new key → IsThere old key

-- what is always true
pub record IsTable (table : Table) : Type 0 where
  pub in_range : (key : ℕ) (c : Claim) → note_at table.claims key ≡ Some c → key < table.key_bound
  pub stands : (key : ℕ) (c : Claim) → note_at table.claims key ≡ Some c → c.is_left ≡ true → InLine table key
  pub awake : StaysAwake table.left table.is_each_left table.timeout
