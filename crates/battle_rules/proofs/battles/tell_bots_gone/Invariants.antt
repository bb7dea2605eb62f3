use Rattle.std.proofs.Common.{take}
use Rattle.std.specs.Prelude.{filter}
use Rattle.line_words.specs.Table.{same_name}
use Rattle.room_lists.specs.Room.{member_names}
use Rattle.lobby_post.specs.Posted.{Told}
use Rattle.battle_rules.proofs.InBattles.{gone}
use Rattle.battle_rules.proofs.battles.tell_bots_gone.Given as goal

abbrev pub invariant-loop-bot : goal.invariant-loop-bot
invariant-loop-bot l = Told l.maps.plain l.initial.post l.post (gone l.leaving l.number (member_names l.room)
    (filter (λ b. same_name l.owner b.owner) (take l.bot-index l.room.bots)))
