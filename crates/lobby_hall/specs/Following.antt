-- Which logs may lack bytes that were put: those of clients that wait to be looked after.
use Rattle.std.specs.Prelude.{◌≡◌, ◌≢◌, ℕ, ◌≤◌, ◌<◌, false, List, [], length, Option, Some, IfSome}
use Rattle.std.specs.List.{AllByRecursion}
use Rattle.line_words.specs.Table.{at_number}
use Rattle.lobby_model.specs.State.{State, Client}
use Rattle.lobby_post.specs.Posted.{has_number}
use Rattle.lobby_machine.specs.Shown.{Shown, dirty_at, unread_of}
use Rattle.lobby_hall.specs.ByClient.{of_client}
use Rattle.lobby_hall.specs.Record.{Log}
use Rattle.lobby_hall.specs.Copied.{IsWithin, completed, lacking}

-- the log of client c lacks nothing
abbrev pub IsFull : List Log → State → ℕ → Type 0
IsFull logs s c = IfSome (of_client logs c) (λ log. lacking log (unread_of s c) ≡ [])

-- client c stands in no list of the changed clients of these workers
abbrev pub IsUnlisted : ℕ → Shown → ℕ → Type 0
IsUnlisted homes lobby c = (home : ℕ) → home < homes → has_number (dirty_at lobby home) c ≡ false

-- The logs follow a lobby whose clients are all served by the first workers, so many: each client whose log lacks bytes
-- stands in the list of one of these workers, or is the one that is behind
pub record Follows (homes : ℕ) (lobby : Shown) (behind : Option ℕ) (logs : List Log) : Type 0 where
  pub few : homes ≤ 64
  pub homed : (c : ℕ) (client : Client) → at_number lobby.plain.clients c ≡ Some client → client.home < homes
  pub one_log_each : length logs ≡ lobby.plain.last_client
  pub within : AllByRecursion IsWithin logs
  pub full : (c : ℕ) → IsUnlisted homes lobby c → behind ≢ Some c → IsFull logs lobby.plain c

-- Whatever the logs followed, they follow still, and what they make complete stays the same
abbrev pub StillFollows : Shown → Option ℕ → List Log → Shown → Option ℕ → List Log → Type 0
StillFollows lobby behind logs new later more =
    (homes : ℕ) → Follows homes lobby behind logs
    → Follows homes new later more × (completed more lobby.plain ≡ completed logs lobby.plain)
