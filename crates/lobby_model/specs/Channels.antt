-- Channels and private talk.
use Rattle.std.specs.Prelude.{ℕ, not, List, [], ◌∷◌, ◌++◌, map, length, zero, suc, is_some}
use Rattle.reply_kinds.specs.declared.Reply.{Reply}
use Rattle.reply_kinds.specs.declared.Reply.TheVariants as reply
use Rattle.line_words.specs.Table.{at_name, is_among}
use Rattle.channel_book.specs.Channels.{names_in, channels_of, joined, left, all_left}
use Rattle.lobby_model.specs.State.{State}
use Rattle.lobby_model.specs.Texts.{already_in_channel, not_in_channel, no_such_user}
use Rattle.lobby_model.specs.Outcome.{Happening, Outcome, tell, issuer, user, users, happens, only_told, done}
use Rattle.lobby_model.specs.Outcome.{refuse_if, message}

-- in pieces of 32, the last of which may have fewer: begun is the piece begun, and so many more go into it
abbrev pub pieces_from : ℕ → List (List ℕ) → List (List ℕ) → List (List (List ℕ))
pieces_from room begun [] = begun ∷ []
pieces_from zero begun (x ∷ xs) = begun ∷ pieces_from 31 (x ∷ []) xs
pieces_from (suc room) begun (x ∷ xs) = pieces_from room (begun ++ x ∷ []) xs

-- who is in a channel, 32 names a line
abbrev pub name_lines : List ℕ → List (List ℕ) → List Reply
name_lines channel names = map (λ piece. reply.Clients channel piece) (pieces_from 32 [] names)

-- names: those who were in it before
abbrev pub joins : List ℕ → List ℕ → List (List ℕ) → Happening
joins me channel names = happens (λ s. record s { channels = joined channel me s.channels }) (
    tell (user me) (reply.Join channel ∷ name_lines channel (names ++ me ∷ []))
    ∷ tell (users names) (reply.Joined channel me ∷ []) ∷ [])

abbrev pub leaves : List ℕ → List ℕ → List (List ℕ) → Happening
leaves me channel names = happens (λ s. record s { channels = left channel me s.channels })
    (tell (users names) (reply.Left channel me ∷ []) ∷ [])

-- leaves all channels, in the order of their names
abbrev pub leaves_all : List ℕ → State → Happening
leaves_all me s = happens (λ t. record t { channels = all_left me t.channels }) (
    map (λ e. tell (users e.1) (reply.Left e.0 me ∷ [])) (channels_of me s.channels))

abbrev pub join : State → List ℕ → List ℕ → Outcome
join s me channel =
    refuse_if (is_among me (names_in s.channels channel)) (reply.JoinFailed channel already_in_channel)
    (done (joins me channel (names_in s.channels channel)))

-- of a channel that one is in, whose names are these
abbrev pub in_channel : State → List ℕ → List ℕ → (List (List ℕ) → Happening) → Outcome
in_channel s me channel happening =
    refuse_if (not (is_among me (names_in s.channels channel))) (message not_in_channel)
    (done (happening (names_in s.channels channel)))

abbrev pub leave : State → List ℕ → List ℕ → Outcome
leave s me channel = in_channel s me channel (leaves me channel)

-- said in a channel
abbrev pub say_in_channel : State → List ℕ → List ℕ → Reply → Outcome
say_in_channel s me channel line = in_channel s me channel (λ names. only_told (tell (users names) (line ∷ []) ∷ []))

abbrev pub say_private : State → List ℕ → List ℕ → List ℕ → Outcome
say_private s me target text =
    refuse_if (not (is_some (at_name s.users target))) (message no_such_user)
    (done (only_told (tell issuer (reply.SayPrivate target text ∷ [])
    ∷ tell (user target) (reply.SaidPrivate me text ∷ []) ∷ [])))

abbrev pub list_channels : State → Outcome
list_channels s = done (only_told (tell issuer (map (λ e. reply.Channel e.0 (length e.1)) s.channels
    ++ reply.EndOfChannels ∷ []) ∷ []))
