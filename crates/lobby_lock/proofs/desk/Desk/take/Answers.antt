use Rattle.lobby_lock.proofs.Moves.{takes}
use Rattle.lobby_lock.proofs.desk.Desk.take.Goals as goal

pub fetch-laid-requires-clause-rule : goal.fetch-laid-requires-clause-rule
fetch-laid-requires-clause-rule g c = λ place. takes place _ c.pass.invariant.alive
