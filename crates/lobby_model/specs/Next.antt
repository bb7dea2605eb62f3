-- One event: its lines are put, whole or not at all.
use Rattle.std.specs.Prelude.{ℕ, ◌+◌, Bool, true, false, ◌&&◌, ◌||◌, nat_le, if◌then◌else◌, List, [], ◌∷◌, ◌++◌}
use Rattle.std.specs.Prelude.{length, take, Option, Some, None}
use Rattle.reply_kinds.specs.Replies.{print_all}
use Rattle.lobby_model.specs.declared.event.Event.{Event}
use Rattle.lobby_model.specs.declared.event.Event.TheVariants as event
use Rattle.line_words.specs.Table.{at_number, map_values, same_number}
use Rattle.lobby_model.specs.State.{State, Client, is_live}
use Rattle.lobby_model.specs.Events.{effect, sent}

-- the batch of an event for client c: all its lines of that event, printed
abbrev pub batch : State → Event → ℕ → List ℕ
batch s e c = print_all (sent s e c)

abbrev pub is_empty : List ℕ → Bool
is_empty [] = true
is_empty (b ∷ bytes) = false

-- an empty batch always fits, so it never cuts
abbrev pub has_room_for : ℕ → Client → List ℕ → Bool
has_room_for limit client bytes = is_empty bytes || nat_le (length client.unread + length bytes) limit

-- A client with the whole batch at the end of its unread bytes; or cut, with what it had not read given up
abbrev pub with_batch : ℕ → List ℕ → Client → Client
with_batch limit bytes client =
    if is_live client
    then (if has_room_for limit client bytes then record client { unread = client.unread ++ bytes }
    else record client { cut = true; unread = [] })
    else client

-- t is the state after the event e of s, before its lines are put
abbrev pub delivered : State → Event → State → State
delivered s e t = record t {
  clients = map_values (λ c client.
      with_batch s.settings.outbox_limit (batch s e c) client) t.clients;
}

abbrev pub next : State → Event → State
next s e = delivered s e (effect s e)

-- the bytes that are put of a batch
abbrev pub put_to : ℕ → List ℕ → Option Client → List ℕ
put_to limit bytes None = []
put_to limit bytes (Some client) = if is_live client && has_room_for limit client bytes then bytes else []

-- the bytes that an event puts to client c
abbrev pub put_by : State → Event → ℕ → List ℕ
put_by s e c = put_to s.settings.outbox_limit (batch s e c) (at_number (effect s e).clients c)

abbrev pub taken_from : ℕ → Option Client → List ℕ
taken_from n None = []
taken_from n (Some client) = take n client.unread

-- the bytes that an event takes from client d
abbrev pub taken_by : State → Event → ℕ → List ℕ
taken_by s (event.Drain c n) d = if same_number c d then taken_from n (at_number s.clients c) else []
taken_by s (event.Open ip home) d = []
taken_by s (event.Say c request) d = []
taken_by s (event.Shut c) d = []
