-- The lines that are put to a client, of one event and over a history.
use Rattle.std.proofs.Common.{ℕ, List, [], ◌++◌}
use Rattle.std.specs.Prelude.{Option, Some, None, map, if◌then◌else◌, ◌&&◌, ◌∷◌}
use Rattle.reply_kinds.specs.declared.Reply.{Reply}
use Rattle.reply_kinds.specs.Replies.{Line}
use Rattle.line_words.specs.Table.{at_number}
use Rattle.lobby_model.specs.declared.event.Event.{Event}
use Rattle.lobby_model.specs.State.{State, Client, is_live}
use Rattle.lobby_model.specs.Events.{effect, sent}
use Rattle.lobby_model.specs.Next.{next, batch, has_room_for}

-- the lines of an event that are put to client c, where this client is there after it
abbrev pub lines_to : State → Event → Option Client → ℕ → List Line
lines_to s e None c = []
lines_to s e (Some client) c = if is_live client && has_room_for s.settings.outbox_limit client (batch s e c) then sent s e c else []

abbrev pub lines_by : State → Event → ℕ → List Line
lines_by s e c = lines_to s e (at_number (effect s e).clients c) c

abbrev pub lines_put : State → List Event → ℕ → List Line
lines_put s [] c = []
lines_put s (e ∷ history) c = lines_by s e c ++ lines_put (next s e) history c

-- ids put aside
abbrev pub replies_of : List Line → List Reply
replies_of lines = map (λ line. line.1) lines
