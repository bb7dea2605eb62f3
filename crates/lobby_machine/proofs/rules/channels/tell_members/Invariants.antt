use Rattle.std.proofs.Common.{length}
use Rattle.lobby_machine.proofs.Members.{Continues}
use Rattle.lobby_machine.proofs.rules.channels.tell_members.Given as goal

abbrev pub invariant-loop-rest : goal.invariant-loop-rest
invariant-loop-rest l = Continues l.maps.plain l.channel l.me l.initial.post l.post l.initial.rest l.rest

abbrev pub decreases-loop-rest : goal.decreases-loop-rest
decreases-loop-rest l = length l.rest
