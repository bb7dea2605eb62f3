use Rattle.std.proofs.Common.{length}
use Rattle.lobby_lines.specs.Writing.{pairs_put}
use Rattle.lobby_lines.proofs.RequestGoing.{Going}
use Rattle.lobby_lines.proofs.request_arguments.add_pairs.Given as goal

abbrev pub invariant-loop-rest : goal.invariant-loop-rest
invariant-loop-rest l = Going (pairs_put 32 l.text l.fields) (pairs_put l.separator l.text l.rest) l.fn.line.items l.line.items

abbrev pub decreases-loop-rest : goal.decreases-loop-rest
decreases-loop-rest l = length l.rest
