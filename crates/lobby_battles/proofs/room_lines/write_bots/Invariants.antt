use Rattle.std.proofs.Common.{◌≡◌, map, take}
use Rattle.lobby_model.specs.Battles.{bot_line}
use Rattle.lobby_battles.specs.Recipients.{written}
use Rattle.lobby_battles.proofs.room_lines.write_bots.Given as goal

abbrev pub invariant-loop-bot : goal.invariant-loop-bot
invariant-loop-bot l = l.post ≡ written l.recipient l.initial.post (map (bot_line l.number) (take l.bot-index l.bot-items))
