use Rattle.lobby_lock.proofs.Moves.{begins}
use Rattle.lobby_lock.proofs.desk.Desk.open.Goals as goal

pub ruled-requires-clause-rule : goal.ruled-requires-clause-rule
ruled-requires-clause-rule g c = begins
