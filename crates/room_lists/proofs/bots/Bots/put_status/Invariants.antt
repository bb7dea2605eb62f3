use Rattle.std.proofs.Common.{◌≡◌, ◌++◌, take, drop}
use Rattle.std.specs.Prelude.{map, if◌then◌else◌}
use Rattle.line_words.specs.Table.{same_name}
use Rattle.room_lists.specs.Room as room
use Rattle.room_lists.proofs.bots.Bots.put_status.Given as goal

abbrev pub invariant-loop-bot : goal.invariant-loop-bot
invariant-loop-bot g l = l.bot-items
    ≡ map (λ b. if same_name l.name b.name then room.bot_with (g.S.StatusWord.number l.status) l.colour b else b) (take l.bot-index l.initial.bot-items) ++ drop l.bot-index l.initial.bot-items
