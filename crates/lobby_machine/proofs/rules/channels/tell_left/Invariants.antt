use Rattle.std.proofs.Common.{map}
use Rattle.std.specs.Map.Iter.{deref}
use Rattle.lobby_post.specs.Posted.{Told}
use Rattle.lobby_machine.proofs.OwnChannels.{letters_of}
use Rattle.lobby_machine.proofs.rules.channels.tell_left.Given as goal

abbrev pub invariant-loop-channel : goal.invariant-loop-channel
invariant-loop-channel l = Told l.maps.plain l.initial.post l.post (letters_of l.me l.maps.plain.channels (map deref l.yielded))
