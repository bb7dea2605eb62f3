use Rattle.std.proofs.Common.{◌≡◌, map, take}
use Rattle.std.specs.Prelude.{None}
use Rattle.line_words.specs.Table.{all_but}
use Rattle.reply_kinds.specs.declared.Reply.TheVariants as reply
use Rattle.lobby_post.specs.Posted.{with_own}
use Rattle.lobby_battles.proofs.burst_parts.write_guests.Given as goal

abbrev pub invariant-loop-name : goal.invariant-loop-name
invariant-loop-name l = l.post
    ≡ with_own l.initial.post (map (λ name. reply.JoinedBattle l.number name None) (all_but l.battle.info.founder (take l.name-index l.name-items)))
