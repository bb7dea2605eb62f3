-- What laws say of a state and of an event, apart from what is put to the clients.
use Rattle.std.specs.Prelude.{ℕ, ◌+◌, List, [], Option, Some, None, if◌then◌else◌, ◌≡◌, false, IsSome}
use Rattle.lobby_model.specs.declared.event.Event.{Event}
use Rattle.lobby_model.specs.declared.event.Event.TheVariants as event
use Rattle.line_words.specs.Table.{ByNumber, at_name, at_number, map_values}
use Rattle.lobby_model.specs.State.{State, Client, name_of}
use Rattle.lobby_model.specs.Sessions.{has_place}

-- clients as if nothing had ever been put to them
abbrev pub without_bytes : ByNumber Client → ByNumber Client
without_bytes clients = map_values {X = Client} (λ c client. record client { cut = false; unread = [] }) clients

-- Clients and users agree: no two clients bear one name, each client that is logged in has its user, and each user its
-- client
pub record OneForEach (s : State) : Type 0 where
  pub single : (c d : ℕ) (name : List ℕ) → name_of s c ≡ Some name → name_of s d ≡ Some name → c ≡ d
  pub has_user : (c : ℕ) (name : List ℕ) → name_of s c ≡ Some name → IsSome (at_name s.users name)
  pub has_client : (name : List ℕ) → IsSome (at_name s.users name) → (c : ℕ) × (name_of s c ≡ Some name)

-- void is an event of a client that is not there, and an open that is refused
abbrev pub IsVoid : State → Event → Type 0
IsVoid s (event.Open ip home) = has_place s ≡ false
IsVoid s (event.Say c request) = at_number s.clients c ≡ None
IsVoid s (event.Shut c) = at_number s.clients c ≡ None
IsVoid s (event.Drain c n) = at_number s.clients c ≡ None

-- the number that an event gives: an open that is not refused gives its client one
abbrev pub number_given : State → Event → Option ℕ
number_given s (event.Open ip home) = if has_place s then Some (s.last_client + 1) else None
number_given s (event.Say c request) = None
number_given s (event.Shut c) = None
number_given s (event.Drain c n) = None
