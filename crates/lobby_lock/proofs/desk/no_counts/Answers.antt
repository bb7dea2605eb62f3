use Rattle.std.proofs.lemmas.Grind.{common_steps}
use Rattle.std.proofs.Common.{arith}
use Rattle.lobby_lock.proofs.desk.no_counts.Goals as goal

pub returns-in_err-places : goal.returns-in_err-places
returns-in_err-places c = grind (arith, common_steps)

pub loop-init : goal.loop-init
loop-init c = grind (arith, common_steps)
