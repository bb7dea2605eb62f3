-- How many bytes an event tells.
use Rattle.std.specs.Prelude.{ℕ}
use Rattle.std.specs.Map.{keys_of}
use Rattle.lobby_model.specs.declared.event.Event.{Event}
use Rattle.lobby_model.specs.State.{State}
use Rattle.lobby_model.specs.Events.{effect}
use Rattle.lobby_model.specs.Next.{batch}
use Rattle.lobby_post.specs.Amounts.{bytes_in_all}

-- what it sends to the clients that are there behind it, in sum, also to those whom it cuts
abbrev pub bytes_told : State → Event → ℕ
bytes_told s e = bytes_in_all (batch s e) (keys_of (effect s e).clients)
