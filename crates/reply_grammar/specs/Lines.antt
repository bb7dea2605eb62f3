-- Reading a whole line.
use Rattle.std.specs.Prelude.{ℕ, Bool, if◌then◌else◌, ◌==◌, nat_eq, find, List, [], ◌∷◌, Option, Some, None}
use Rattle.std.specs.Cmp.Lexicographic.{pointwise}
use Rattle.reply_kinds.specs.declared.Reply.{Reply}
use Rattle.reply_kinds.specs.declared.Reply.TheVariants as reply
use Rattle.reply_kinds.specs.declared.command_word.CommandWord.{CommandWord}
use Rattle.reply_kinds.specs.declared.command_word.CommandWord.TheVariants as command
use Rattle.reply_kinds.specs.Kinds.{Values}
use Rattle.reply_kinds.specs.Opened.{opened_kinds}
use Rattle.reply_kinds.specs.declared.opened_battle.OpenedBattle.{OpenedBattle}
use Rattle.reply_kinds.specs.Replies.{word_of, kinds_of}
use Rattle.line_words.specs.Parts.{before, from}
use Rattle.reply_fields.specs.Fields.{◌>>=◌, number_in}
use Rattle.reply_grammar.specs.Reading.{shaped}

-- the same bytes
abbrev pub same : List ℕ → List ℕ → Bool
same = pointwise nat_eq

-- Written by tools/protocol.py of protocol/replies.toml: command words.
-- all command words
abbrev pub commands : List CommandWord
commands =
    command.TasServer ∷ command.Accepted ∷ command.Denied ∷ command.Motd ∷ command.ServerMsg ∷ command.AddUser
    ∷ command.RemoveUser ∷ command.ClientStatus ∷ command.LoginInfoEnd ∷ command.Pong ∷ command.Join ∷ command.Clients
    ∷ command.Joined ∷ command.Left ∷ command.JoinFailed ∷ command.Said ∷ command.SaidEx ∷ command.SayPrivate
    ∷ command.SaidPrivate ∷ command.Channel ∷ command.EndOfChannels ∷ command.OpenBattle ∷ command.OpenBattleFailed
    ∷ command.BattleOpened
    ∷ command.BattleClosed ∷ command.JoinBattle ∷ command.JoinBattleFailed ∷ command.JoinedBattle ∷ command.LeftBattle
    ∷ command.UpdateBattleInfo
    ∷ command.RequestBattleStatus ∷ command.ClientBattleStatus ∷ command.SaidBattle ∷ command.SaidBattleEx
    ∷ command.AddBot ∷ command.UpdateBot
    ∷ command.RemoveBot ∷ command.AddStartRect ∷ command.RemoveStartRect ∷ command.SetScriptTags
    ∷ command.RemoveScriptTags ∷ command.ForceQuitBattle
    ∷ command.Ring ∷ command.JoinBattleRequest ∷ command.DisableUnits ∷ command.EnableUnits ∷ command.EnableAllUnits
    ∷ []

-- End of what is written: command words.

-- the command word that is this text
unfoldable pub named : List ℕ → Option CommandWord
named w = find (λ c. same w (word_of c)) commands

-- what is told of a battle by these arguments
abbrev pub opened_of_values : Values opened_kinds → OpenedBattle
opened_of_values x = record {
  battle_type = x.0;
  nat_type = x.1.0;
  founder = x.1.1.0;
  ip = x.1.1.1.0;
  port = x.1.1.1.1.0;
  max_players = x.1.1.1.1.1.0;
  passworded = x.1.1.1.1.1.1.0;
  rank = x.1.1.1.1.1.1.1.0;
  map_hash = x.1.1.1.1.1.1.1.1.0;
  engine_name = x.1.1.1.1.1.1.1.1.1.0;
  engine_version = x.1.1.1.1.1.1.1.1.1.1.0;
  map = x.1.1.1.1.1.1.1.1.1.1.1.0;
  title = x.1.1.1.1.1.1.1.1.1.1.1.1.0;
  game_name = x.1.1.1.1.1.1.1.1.1.1.1.1.1.0;
}

-- Written by tools/protocol.py of protocol/replies.toml: replies of values.
-- the reply of these arguments
abbrev pub reply_of_values : (c : CommandWord) → Values (kinds_of c) → Reply
reply_of_values command.TasServer x = reply.TasServer x.0 x.1.0 x.1.1.0 x.1.1.1.0
reply_of_values command.Accepted x = reply.Accepted x.0
reply_of_values command.Denied x = reply.Denied x.0
reply_of_values command.Motd x = reply.Motd x.0
reply_of_values command.ServerMsg x = reply.ServerMsg x.0
reply_of_values command.AddUser x = reply.AddUser x.0 x.1.0 x.1.1.0 x.1.1.1.0
reply_of_values command.RemoveUser x = reply.RemoveUser x.0
reply_of_values command.ClientStatus x = reply.ClientStatus x.0 x.1.0
reply_of_values command.LoginInfoEnd x = reply.LoginInfoEnd
reply_of_values command.Pong x = reply.Pong
reply_of_values command.Join x = reply.Join x.0
reply_of_values command.Clients x = reply.Clients x.0 x.1.0
reply_of_values command.Joined x = reply.Joined x.0 x.1.0
reply_of_values command.Left x = reply.Left x.0 x.1.0
reply_of_values command.JoinFailed x = reply.JoinFailed x.0 x.1.0
reply_of_values command.Said x = reply.Said x.0 x.1.0 x.1.1.0
reply_of_values command.SaidEx x = reply.SaidEx x.0 x.1.0 x.1.1.0
reply_of_values command.SayPrivate x = reply.SayPrivate x.0 x.1.0
reply_of_values command.SaidPrivate x = reply.SaidPrivate x.0 x.1.0
reply_of_values command.Channel x = reply.Channel x.0 x.1.0
reply_of_values command.EndOfChannels x = reply.EndOfChannels
reply_of_values command.OpenBattle x = reply.OpenBattle x.0
reply_of_values command.OpenBattleFailed x = reply.OpenBattleFailed x.0
reply_of_values command.BattleOpened x = reply.BattleOpened x.0 (opened_of_values x.1)
reply_of_values command.BattleClosed x = reply.BattleClosed x.0
reply_of_values command.JoinBattle x = reply.JoinBattle x.0 x.1.0
reply_of_values command.JoinBattleFailed x = reply.JoinBattleFailed x.0
reply_of_values command.JoinedBattle x = reply.JoinedBattle x.0 x.1.0 x.1.1.0
reply_of_values command.LeftBattle x = reply.LeftBattle x.0 x.1.0
reply_of_values command.UpdateBattleInfo x = reply.UpdateBattleInfo x.0 x.1.0 x.1.1.0 x.1.1.1.0 x.1.1.1.1.0
reply_of_values command.RequestBattleStatus x = reply.RequestBattleStatus
reply_of_values command.ClientBattleStatus x = reply.ClientBattleStatus x.0 x.1.0 x.1.1.0
reply_of_values command.SaidBattle x = reply.SaidBattle x.0 x.1.0
reply_of_values command.SaidBattleEx x = reply.SaidBattleEx x.0 x.1.0
reply_of_values command.AddBot x = reply.AddBot x.0 x.1.0 x.1.1.0 x.1.1.1.0 x.1.1.1.1.0 x.1.1.1.1.1.0
reply_of_values command.UpdateBot x = reply.UpdateBot x.0 x.1.0 x.1.1.0 x.1.1.1.0
reply_of_values command.RemoveBot x = reply.RemoveBot x.0 x.1.0
reply_of_values command.AddStartRect x = reply.AddStartRect x.0 x.1.0 x.1.1.0 x.1.1.1.0 x.1.1.1.1.0
reply_of_values command.RemoveStartRect x = reply.RemoveStartRect x.0
reply_of_values command.SetScriptTags x = reply.SetScriptTags x.0
reply_of_values command.RemoveScriptTags x = reply.RemoveScriptTags x.0
reply_of_values command.ForceQuitBattle x = reply.ForceQuitBattle
reply_of_values command.Ring x = reply.Ring x.0
reply_of_values command.JoinBattleRequest x = reply.JoinBattleRequest x.0 x.1.0
reply_of_values command.DisableUnits x = reply.DisableUnits x.0
reply_of_values command.EnableUnits x = reply.EnableUnits x.0
reply_of_values command.EnableAllUnits x = reply.EnableAllUnits

-- End of what is written: replies of values.

-- the arguments of one command, to the end
abbrev pub read_arguments : CommandWord → List ℕ → Option Reply
read_arguments c bytes = shaped (kinds_of c) bytes >>= λ xs. Some (reply_of_values c xs)

-- a line without its id
unfoldable pub read_body : List ℕ → Option Reply
read_body bytes = named (before 32 bytes) >>= λ c. read_arguments c (from 32 bytes)

-- what stands behind one byte
abbrev pub behind_space : List ℕ → Option (List ℕ)
behind_space [] = None
behind_space (b ∷ bs) = Some bs

-- a line behind its `#`
unfoldable pub read_numbered : List ℕ → Option (Option ℕ × Reply)
read_numbered bytes = do
  id ← number_in 0 2147483647 (before 32 bytes)
  text ← behind_space (from 32 bytes)
  r ← read_body text
  Some (Some id, r)

-- a line without its LF: the pair that it reads as
unfoldable pub read_line : List ℕ → Option (Option ℕ × Reply)
read_line [] = None
read_line (b ∷ bs) = if b == 35 then read_numbered bs else (read_body (b ∷ bs) >>= λ r. Some (None, r))
