-- What a schedule leaves of each client: the bytes put to it, and those that it read.
use Rattle.std.specs.Prelude.{◌≡◌, ℕ, List, [], Option, Some, None}
use Rattle.lobby_model.specs.declared.event.Event.{Event}
use Rattle.lobby_model.specs.State.{State}
use Rattle.lobby_model.specs.History.{put_in, taken_in}
use Rattle.lobby_hall.specs.ByClient.{of_client}

-- put: all bytes that were put to a client; read: those of them that it read
pub record Log : Type 0 where
  pub put : List ℕ
  pub read : List ℕ

abbrev pub log_of : Option Log → Log
log_of (Some log) = log
log_of None = record { put = []; read = [] }

abbrev pub log_at : List Log → ℕ → Log
log_at logs c = log_of (of_client logs c)

-- the logs are those of a history
pub record IsRecord (logs : List Log) (start : State) (events : List Event) : Type 0 where
  pub put : (c : ℕ) → (log_at logs c).put ≡ put_in start events c
  pub read : (c : ℕ) → (log_at logs c).read ≡ taken_in start events c
