-- What the lines of a record are played as.
use Rattle.std.specs.Prelude.{ℕ, true, Bool, List, [], ◌∷◌, length}
use Rattle.account_book.specs.Account.{Account}
use Rattle.lobby_model.specs.declared.event.Event.{Event}
use Rattle.lobby_model.specs.declared.event.Event.TheVariants as event
use Rattle.line_words.specs.Table.{at_number}
use Rattle.lobby_model.specs.State.{State}
use Rattle.lobby_model.specs.Next.{next, taken_from}
use Rattle.record_lines.specs.Masks.{masked}

-- an event that gave so much: it is no worker's, its request is the one that is written, and it takes what was taken
abbrev pub played : List Account → Bool → ℕ → Event → Event
played accounts private gain (event.Open ip home) = event.Open ip 0
played accounts private gain (event.Say c request) = event.Say c (masked accounts private request)
played accounts private gain (event.Drain c n) = event.Drain c gain
played accounts private gain (event.Shut c) = event.Shut c

-- how many bytes an event takes
abbrev pub bytes_taken : State → Event → ℕ
bytes_taken s (event.Open ip home) = 0
bytes_taken s (event.Say c request) = 0
bytes_taken s (event.Drain c n) = length (taken_from n (at_number s.clients c))
bytes_taken s (event.Shut c) = 0

-- a history as the record of it is played, private talk and all
abbrev pub played_from : State → List Event → List Event
played_from s [] = []
played_from s (e ∷ history) = played s.accounts true (bytes_taken s e) e ∷ played_from (next s e) history
