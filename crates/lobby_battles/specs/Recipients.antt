-- For whom lines are written, and what is written then.
use Rattle.std.specs.Prelude.{Bool, true, false, List}
use Rattle.reply_kinds.specs.declared.Reply.{Reply}
use Rattle.lobby_post.specs.Posted.{Posted, with_others, with_own}
use Rattle.lobby_battles.specs.declared.room_lines.Recipient.{Recipient}
use Rattle.lobby_battles.specs.declared.room_lines.Recipient.TheVariants.{Issuer, Other}

-- lines for one reader, behind those that were written for it
abbrev pub written : Recipient → Posted → List Reply → Posted
written Issuer = with_own
written Other = with_others

-- the recipient of lines for the user of a name
abbrev pub is_issuer : Recipient → Bool
is_issuer Issuer = true
is_issuer Other = false
