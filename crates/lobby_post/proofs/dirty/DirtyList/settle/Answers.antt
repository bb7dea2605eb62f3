use Rattle.std.proofs.lemmas.Grind.{common_steps}
use Rattle.std.proofs.Common.{arith}
use Rattle.lobby_post.proofs.dirty.DirtyList.settle.Goals as goal

pub loop-client-init : goal.loop-client-init
loop-client-init c = grind (arith, common_steps)

pub loop-client-preserved : goal.loop-client-preserved
loop-client-preserved c = grind (arith, common_steps)

pub returns : goal.returns
returns c = grind (arith, common_steps)
