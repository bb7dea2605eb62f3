use Rattle.std.proofs.Common.{◌≡◌, map, take}
use Rattle.reply_kinds.specs.declared.Reply.TheVariants as reply
use Rattle.lobby_post.specs.Posted.{with_own}
use Rattle.lobby_battles.proofs.burst_parts.write_motd.Given as goal

abbrev pub invariant-loop-line : goal.invariant-loop-line
invariant-loop-line l = l.post ≡ with_own l.initial.post (map (λ line. reply.Motd line) (take l.line-index l.motd))
