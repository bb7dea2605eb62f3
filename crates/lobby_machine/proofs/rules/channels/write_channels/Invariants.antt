use Rattle.std.proofs.Common.{◌≡◌, map}
use Rattle.std.specs.Map.Iter.{deref_pair}
use Rattle.lobby_post.specs.Posted.{with_own}
use Rattle.lobby_machine.specs.Talk.{channel_lines}
use Rattle.lobby_machine.proofs.rules.channels.write_channels.Given as goal

abbrev pub invariant-loop-channel : goal.invariant-loop-channel
invariant-loop-channel l = l.post ≡ with_own l.initial.post (channel_lines (map deref_pair l.yielded))
