use Rattle.std.proofs.Common.{◌≡◌}
use Rattle.lobby_post.specs.Posted.{with_own}
use Rattle.lobby_battles.proofs.RoomLines.{battles_told}
use Rattle.lobby_battles.proofs.burst_parts.write_battles.Given as goal

abbrev pub invariant-loop-number : goal.invariant-loop-number
invariant-loop-number l = l.post ≡ with_own l.initial.post (battles_told l.yielded)
