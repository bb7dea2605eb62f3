-- What an event sends, piece by piece, and what its delivery makes of the clients.
use Rattle.std.specs.Prelude.{◌≡◌, ◌⊎◌, ℕ, ◌+◌, ◌-◌, ◌^◌, ◌≤◌, ◌<◌, Bool, true, false, ◌&&◌, ◌||◌, if◌then◌else◌}
use Rattle.std.specs.Prelude.{List, [], ◌∷◌, ◌++◌, length, Some}
use Rattle.std.specs.List.{list_any}
use Rattle.std.specs.Map.{lookup}
use Rattle.std.specs.Ordering.{nat_cmp}
use Rattle.std.specs.BTreeMap.{is_at}
use Rattle.line_words.specs.Table.{ByNumber, map_values, without_number, same_number}
use Rattle.lobby_post.specs.declared.due.Due.{Due}
use Rattle.lobby_post.specs.Dues.{copied, counted, shared_bytes_in, shared_pieces_in, count_for, Covers}
use Rattle.lobby_post.specs.Mask.{has_home}
use Rattle.lobby_model.specs.declared.event.Event.{Event}
use Rattle.lobby_model.specs.declared.event.Phase.TheVariants.{Ended}
use Rattle.lobby_model.specs.State.{State, Client, is_live, set_phase}
use Rattle.lobby_model.specs.Next.{with_batch}
use Rattle.lobby_model.specs.Touched.{is_touched, touches}

-- a client, the limit of its outbox, how many bytes may be copied and how many pieces shared to it without memory, what
-- is still due to it, and whether it stands in its worker's list of those that were touched
pub record Mailbox : Type 0 where
  pub client : Client
  pub limit : ℕ
  pub spare : ℕ
  pub spare_pieces : ℕ
  pub due : Due
  pub listed : Bool

-- The clients of one worker: those that wait, in their order; those that the event at hand touched and that did not
-- wait; how many do neither
pub record Line : Type 0 where
  pub waiting : List ℕ
  pub fresh : List ℕ
  pub idle : ℕ

-- the clients alone
abbrev pub plain : ByNumber Mailbox → ByNumber Client
plain m = map_values (λ c held. held.client) m

-- a client that stays ends, and one that does not is there no more
abbrev pub parted : ByNumber Client → ℕ → Bool → ByNumber Client
parted clients c true = set_phase clients c Ended
parted clients c false = without_number clients c

-- Pieces for clients, in the order of telling. What client d gets is its pieces, one behind another
abbrev pub bytes_for : ByNumber (List ℕ) → ℕ → List ℕ
bytes_for [] d = []
bytes_for (p ∷ pieces) d = if same_number d p.0 then p.1 ++ bytes_for pieces d else bytes_for pieces d

-- what is due to client d of these pieces
abbrev pub due_for : ByNumber (List ℕ) → ℕ → Due
due_for pieces d = record {
  bytes = counted (length (bytes_for pieces d));
  shared_bytes = counted (count_for shared_bytes_in pieces d);
  shared_pieces = counted (count_for shared_pieces_in pieces d);
}

-- the clients with all their pieces put, or cut
abbrev pub deliver : ℕ → ByNumber (List ℕ) → ByNumber Client → ByNumber Client
deliver limit pieces clients = map_values (λ d client. with_batch limit (bytes_for pieces d) client) clients

-- a client of this home is touched by bytes for it
abbrev pub wakes_one : ℕ → ℕ → List ℕ → Client → Bool
wakes_one limit home bytes client = same_number client.home home && is_touched limit bytes client

-- one of the clients is of this home and is touched by its pieces
abbrev pub wakes_home : ℕ → ByNumber (List ℕ) → ByNumber Client → ℕ → Bool
wakes_home limit pieces clients home = list_any (λ e. wakes_one limit home (bytes_for pieces e.0) e.1) clients

-- exactly the homes of clients that the event touched
abbrev pub IsWakes : State → Event → ℕ → Type 0
IsWakes s e wakes = (home : ℕ) → has_home wakes home ≡ touches s e home

-- The first piece is put of what is due to a client: when the rest is put too, the client is as if all had been put at
-- once, as one batch, and was touched where that would have touched it
pub record PutsFirst (limit due : ℕ) (piece : List ℕ) (old new : Client) : Type 0 where
  pub home : new.home ≡ old.home
  pub heard : is_live new ≡ true → is_live old ≡ true
  pub whole : (rest : List ℕ) → (is_live old ≡ true → counted (length (piece ++ rest)) ≡ due)
      → with_batch limit rest new ≡ with_batch limit (piece ++ rest) old
  pub touched : (rest : List ℕ) → (is_touched limit piece old || is_touched limit rest new)
      ≡ is_touched limit (piece ++ rest) old

-- something holds of each slot
abbrev pub AllSlots : (ℕ → Mailbox → Type 0) → ByNumber Mailbox → Type 0
AllSlots P clients = (q : ℕ) (held : Mailbox) → lookup (is_at (nat_cmp q)) clients ≡ Some held → P q held

-- each outbox has this limit
abbrev pub HaveLimit : ℕ → ByNumber Mailbox → Type 0
HaveLimit limit = AllSlots (λ q held. held.limit ≡ limit)

-- so much is still due to a client that hears. One that does not gets nothing, whatever was counted for it
abbrev pub IsDue : Due → Mailbox → Type 0
IsDue due held = is_live held.client ≡ true → held.due ≡ due

-- these pieces, and no others, are still due
abbrev pub AreDue : ByNumber (List ℕ) → ByNumber Mailbox → Type 0
AreDue pieces = AllSlots (λ q held. IsDue (due_for pieces q) held)

-- a piece of so many bytes is part of what is due, where all of that was counted
abbrev pub AwaitsPiece : Mailbox → ℕ → Type 0
AwaitsPiece held n = is_live held.client ≡ true → held.due.bytes < 2 ^ 32 - 1 → Covers held.due n

-- what is due can be put without memory
abbrev pub IsReady : Mailbox → Type 0
IsReady held = is_live held.client ≡ true → length held.client.unread + held.due.bytes ≤ held.limit
    → (copied held.due ≤ held.spare) × (held.due.shared_pieces ≤ held.spare_pieces)

-- the same of all clients
abbrev pub AreReady : ByNumber Mailbox → Type 0
AreReady = AllSlots (λ q held. IsReady held)

-- a client hears, and of so much that is due more is copied, or more is shared, than it has room for
abbrev pub IsShort : Mailbox → Due → Type 0
IsShort held due = (is_live held.client ≡ true) × ((held.spare < copied due) ⊎ (held.spare_pieces < due.shared_pieces))

-- Memory is wanted for these pieces: some client that hears gets more bytes of them, or more that are shared, than it
-- has room for
pub record WantsMemory (pieces : ByNumber (List ℕ)) (clients : ByNumber Mailbox) : Type 0 where
  pub client : ℕ
  pub held : Mailbox
  pub found : lookup (is_at (nat_cmp client)) clients ≡ Some held
  pub hears : is_live held.client ≡ true
  pub short : (held.spare < length (bytes_for pieces client))
      ⊎ (held.spare_pieces < count_for shared_pieces_in pieces client)
