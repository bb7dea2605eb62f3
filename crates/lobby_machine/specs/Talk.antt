-- What is told channel by channel.
use Rattle.std.specs.Prelude.{ℕ, List, [], ◌∷◌, map, length}
use Rattle.reply_kinds.specs.declared.Reply.{Reply}
use Rattle.reply_kinds.specs.declared.Reply.TheVariants as reply
use Rattle.channel_book.specs.Channels.{Channels, channels_of}
use Rattle.lobby_model.specs.Outcome.{Letter, tell, users}
use Rattle.lobby_post.specs.Posted.{but_issuer}

-- that one who logs out leaves a channel with these names: all of them but its own
abbrev pub left_letter : List ℕ → List ℕ → List (List ℕ) → Letter
left_letter me channel names = tell (but_issuer (users names)) (reply.Left channel me ∷ [])

-- that one who logs out leaves its channels: the others of each, in the order of the channels' names
abbrev pub left_letters : List ℕ → Channels → List Letter
left_letters me channels = map (λ e. left_letter me e.0 e.1) (channels_of me channels)

-- how many are in each
abbrev pub channel_lines : Channels → List Reply
channel_lines channels = map (λ e. reply.Channel e.0 (length e.1)) channels
