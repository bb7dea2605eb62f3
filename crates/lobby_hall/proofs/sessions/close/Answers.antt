use Rattle.std.proofs.Common.{arith, refl}
use Rattle.std.specs.Prelude.{None}
use Rattle.lobby_hall.proofs.Changed.{past-changed, written}
use Rattle.lobby_hall.proofs.sessions.close.Goals as goal

pub returns-then-index-len : goal.returns-then-index-len
returns-then-index-len c = written (λ _. None) c.args.sessions.now.items c.args.client c.in-Some.index c.in-Some.ensures.some c.index_mut.result.now (omega arith) c.index_mut.ensures.value None refl

pub returns-else-index-len : goal.returns-else-index-len
returns-else-index-len c = past-changed (λ _. None) c.args.sessions.now.items c.args.client c.in-Some.index c.in-Some.ensures.some (omega arith)
