-- What contracts see of a worker's connections.
use Rattle.std.specs.Prelude.{◌≡◌, ◌⊎◌, ◌≤◌, ℕ, Bool, true, false, if◌then◌else◌, List, [], ◌∷◌, ◌++◌, length}
use Rattle.std.specs.Prelude.{slice_index_or, nat_eq, Option}
use Rattle.std.specs.Map.{lookup}
use Rattle.lobby_connections.specs.Timeouts.{shorter}
use Rattle.lobby_connections.specs.declared.poll_timeout.PollTimeout.{PollTimeout}
use Rattle.lobby_connections.specs.declared.seat.Claim.{Claim}

-- The keys of those who get a turn though nothing new comes, or that all do, and how many of them had it; the same for
-- those who come behind them; how many bytes the turns of this round told, and the most that it tells; the clients
-- that the lobby named, the keys of those whose connections are to get a turn for it, and whether the lobby may name
-- more; the workers to be woken; how long the worker may wait before the next round; how many connections
-- there are, what each of their keys is below, and how many more there is room for; what is noted of their turns, by
-- their keys; and the key of each client's
pub record Table : Type 0 where
  pub due : List ℕ
  pub is_each_due : Bool
  pub served : ℕ
  pub left : List ℕ
  pub is_each_left : Bool
  pub told : ℕ
  pub round_most : ℕ
  pub called : List ℕ
  pub named : List ℕ
  pub is_pending : Bool
  pub to_wake : ℕ
  pub timeout : PollTimeout
  pub count : ℕ
  pub key_bound : ℕ
  pub room : ℕ
  pub claims : List (Option Claim)
  pub keys : List (ℕ × ℕ)

-- the key of a client's connection
abbrev pub key_in : List (ℕ × ℕ) → ℕ → Option ℕ
key_in keys client = lookup (nat_eq client) keys

-- how many get a turn, those among them who had it
abbrev pub due_count : Table → ℕ
due_count table = if table.is_each_due then table.key_bound else length table.due

-- each who was due had its turn, and nobody is named or may be
abbrev pub IsIdle : Table → Type 0
IsIdle table = (due_count table ≤ table.served) × (table.named ≡ []) × (table.is_pending ≡ false)

-- the key of the next one of them
abbrev pub next_key : Table → ℕ
next_key table = if table.is_each_due then table.served else slice_index_or table.due table.served 0

-- each had its turn, and those who were left over get it next
abbrev pub with_left : Table → Table
with_left table = record table {
  due = table.left;
  is_each_due = table.is_each_left;
  served = 0;
  left = [];
  is_each_left = false;
}

-- this key joins those that are left for the next round, or all are, the worker waits no longer than this, and nothing
-- else changes
abbrev pub LinesUp : Table → Table → ℕ → PollTimeout → Type 0
LinesUp old new key timeout =
    (new ≡ record old { left = old.left ++ key ∷ []; timeout = shorter old.timeout timeout })
    ⊎ (new ≡ record old { is_each_left = true; timeout = shorter old.timeout timeout })

-- the same, but for what is noted of turns
abbrev pub Leaves : Table → Table → ℕ → PollTimeout → Type 0
Leaves old new key timeout = LinesUp (record old { claims = new.claims }) new key timeout

-- connections and room for them come and go
abbrev pub stayed : Table → Table → Table
stayed old new = record old {
  count = new.count;
  key_bound = new.key_bound;
  room = new.room;
  claims = new.claims;
  keys = new.keys;
}

-- and nothing else changes
abbrev pub Stays : Table → Table → Type 0
Stays old new = new ≡ stayed old new

-- clients were touched
abbrev pub touched : Table → Table → Table
touched old new = record old { is_pending = new.is_pending; to_wake = new.to_wake }
