-- What a client has not read.
use Rattle.std.specs.Prelude.{ℕ, Bool, true, ◌&&◌, ◌||◌, List, [], Option, Some, None}
use Rattle.lobby_model.specs.State.{Client, is_ended}
use Rattle.lobby_model.specs.Next.{is_empty}

-- nothing, where there is no such client
abbrev pub unread_in : Option Client → List ℕ
unread_in None = []
unread_in (Some client) = client.unread

-- nothing will ever come of it again: it is not there, it was cut, or it is Ended and has nothing left to read
abbrev pub is_over : Option Client → Bool
is_over None = true
is_over (Some client) = client.cut || (is_ended client.phase && is_empty client.unread)
