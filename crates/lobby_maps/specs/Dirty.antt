-- The lists of changed clients: for each worker those of its clients that gained bytes, or were cut, and that it did
-- not take out since.
use Rattle.std.specs.Prelude.{◌≡◌, ℕ, Bool, false, not, ◌&&◌, if◌then◌else◌, List, ◌++◌, filter, Option, Some, None}
use Rattle.std.specs.Prelude.{is_some}
use Rattle.std.specs.List.Sorted.{IsSorted}
use Rattle.std.specs.Ordering.{nat_cmp}
use Rattle.line_words.specs.Table.{ByNumber, at_number, same_number}
use Rattle.lobby_model.specs.declared.event.Event.{Event}
use Rattle.lobby_model.specs.State.{State, Client}
use Rattle.lobby_model.specs.Events.{effect}
use Rattle.lobby_model.specs.Next.{batch, next}
use Rattle.lobby_model.specs.Touched.{is_touched}
use Rattle.lobby_post.specs.Crowd.{Crowd, for_homes, waits}
use Rattle.lobby_post.specs.Posted.{has_number}
use Rattle.lobby_post.specs.Dirty.{times}

-- those of a list that are there
abbrev pub those_there : ByNumber Client → List ℕ → List ℕ
those_there clients list = filter (λ c. is_some (at_number clients c)) list

-- a client is there, this worker serves it, and these bytes touch it: it gains them, or is cut
abbrev pub is_changed : ℕ → List ℕ → ℕ → Option Client → Bool
is_changed limit bytes home None = false
is_changed limit bytes home (Some client) = same_number client.home home && is_touched limit bytes client

-- an event touches client c, whom this worker serves
abbrev pub changes : State → Event → ℕ → ℕ → Bool
changes s e home c = is_changed s.settings.outbox_limit (batch s e c) home (at_number (effect s e).clients c)

-- A worker's list after an event: those that are still there, as they stood, and behind them, each once and in rising
-- numbers, its clients that the event touched and that did not stand there
pub record DirtyAfter (s : State) (e : Event) (home : ℕ) (old new : List ℕ) : Type 0 where
  pub behind : List ℕ
  pub is : new ≡ those_there (next s e).clients old ++ behind
  pub rising : IsSorted nat_cmp behind
  pub exact : (c : ℕ) → times c behind ≡ (if changes s e home c && not (has_number old c) then 1 else 0)

-- the lists of all workers
unfoldable pub lists_of : Crowd → List (List ℕ)
lists_of clients = for_homes 64 (waits clients)
