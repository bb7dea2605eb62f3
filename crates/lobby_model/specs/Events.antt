-- What each event comes to, the state after it, and the lines that it sends to one client.
use Rattle.std.specs.Prelude.{ℕ, ◌+◌, Bool, if◌then◌else◌, List, map, Option, None}
use Rattle.command_grammar.specs.declared.command.Command.{Command}
use Rattle.reply_kinds.specs.declared.Reply.{Reply}
use Rattle.reply_kinds.specs.Replies.{Line}
use Rattle.line_words.specs.Table.{same_number}
use Rattle.lobby_model.specs.declared.event.Event.{Event}
use Rattle.lobby_model.specs.declared.event.Event.TheVariants as event
use Rattle.lobby_model.specs.State.{State, hears, name_of}
use Rattle.lobby_model.specs.Outcome.{Reader, Outcome, nothing, done, lines_for, letters_of, state_after, refusal_of}
use Rattle.lobby_model.specs.Sessions.{has_place, connects, departs, disconnects, drains}
use Rattle.lobby_model.specs.Commands.{answer}

-- An open for which there is no place, and a command of a client that does not hear, come to nothing
abbrev pub outcome : State → Event → Outcome
outcome s (event.Open ip home) = if has_place s then done (connects (s.last_client + 1) ip home s) else nothing
outcome s (event.Say c request) = if hears s c then answer s c (name_of s c) request.command else nothing
outcome s (event.Shut c) = departs s (name_of s c) (disconnects c)
outcome s (event.Drain c n) = done (drains c n)

-- the first refusal that applies to a command of a client that is neither Ended nor cut
abbrev pub refusal : State → ℕ → Command → Option Reply
refusal s c command = refusal_of (answer s c (name_of s c) command)

-- what the maps are after an event, before its lines are put
abbrev pub effect : State → Event → State
effect s e = state_after s (outcome s e)

-- the client whose event it is
abbrev pub issuer_of : State → Event → ℕ
issuer_of s (event.Open ip home) = s.last_client + 1
issuer_of s (event.Say c request) = c
issuer_of s (event.Shut c) = c
issuer_of s (event.Drain c n) = c

abbrev pub id_of : Event → Option ℕ
id_of (event.Say c request) = request.id
id_of (event.Open ip home) = None
id_of (event.Shut c) = None
id_of (event.Drain c n) = None

-- client d, as one who may get a line of an event of client c
abbrev pub reader_of : State → ℕ → ℕ → Reader
reader_of s c d = record { mine = same_number d c; name = name_of s d }

-- the id of the request stands on the issuer's lines alone
abbrev pub line_id : Bool → Event → Option ℕ
line_id mine e = if mine then id_of e else None

abbrev pub under : Option ℕ → List Reply → List Line
under id replies = map (λ r. (id, r)) replies

-- the lines for client d of what an event comes to
abbrev pub lines_of : State → Event → Outcome → ℕ → List Line
lines_of s e comes d = under (line_id (same_number d (issuer_of s e)) e)
    (lines_for (reader_of s (issuer_of s e) d) (letters_of comes))

-- the lines that an event sends to client d
abbrev pub sent : State → Event → ℕ → List Line
sent s e d = lines_of s e (outcome s e) d
