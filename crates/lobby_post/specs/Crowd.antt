-- All clients, and those of each worker that changed and wait.
use Rattle.std.specs.Prelude.{◌≡◌, ℕ, zero, suc, not, List, [], ◌∷◌, ◌++◌, filter, slice_index_or, Some}
use Rattle.std.specs.Ordering.{nat_cmp}
use Rattle.std.specs.BTreeMap.{is_at}
use Rattle.std.specs.Map.{lookup}
use Rattle.line_words.specs.Table.{ByNumber, same_number}
use Rattle.lobby_post.specs.Mail.{Mailbox, Line}
use Rattle.lobby_post.specs.Dirty.{Roomy, AreKnown, line_of, listings_of, none_waits, stands}

-- All clients by their numbers, the limit that each outbox has, and the lines of the 64 workers
pub record Crowd : Type 0 where
  pub limit : ℕ
  pub slots : ByNumber Mailbox
  pub lines : List Line

-- a thing for each of the first n workers
abbrev pub for_homes : {X : Type 0} → ℕ → (ℕ → X) → List X
for_homes zero f = []
for_homes (suc n) f = for_homes n f ++ f n ∷ []

-- the lines of the 64 workers, and the line of one
unfoldable pub lines_of : List Roomy → List Line
lines_of lists = for_homes 64 (line_of lists)

abbrev pub line_at : List Line → ℕ → Line
line_at lines home = slice_index_or lines home none_waits

-- what is known of all clients between two events
abbrev pub Known : Crowd → ℕ → Type 0
Known crowd last = AreKnown (listings_of crowd.slots) (line_at crowd.lines) last

-- the clients of a worker that wait and are there
abbrev pub waits : Crowd → ℕ → List ℕ
waits crowd home = filter (stands (listings_of crowd.slots) home) (line_at crowd.lines home).waiting

-- those of a list but this one
abbrev pub all_but_client : ℕ → List ℕ → List ℕ
all_but_client client clients = filter (λ c. not (same_number client c)) clients

-- where a client has read all, no memory is kept for it
abbrev pub KeepsNothing : ℕ → ByNumber Mailbox → Type 0
KeepsNothing client slots = (held : Mailbox) → lookup (is_at (nat_cmp client)) slots ≡ Some held
    → held.client.unread ≡ []
    → (held.spare ≡ 0) × (held.spare_pieces ≡ 0)
