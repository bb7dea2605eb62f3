use Rattle.std.proofs.Common.{◌≡◌, take}
use Rattle.room_lists.proofs.bots.Bots.copy.Given as goal

abbrev pub invariant-loop-bot : goal.invariant-loop-bot
invariant-loop-bot g l = l.bots.items ≡ take l.bot-index l.bot-items
