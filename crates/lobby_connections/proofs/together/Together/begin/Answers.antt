use Rattle.lobby_connections.proofs.Standings.{waiting_wait}
use Rattle.lobby_connections.proofs.together.Together.begin.Goals as goal

pub returns-clause-waits : goal.returns-clause-waits
returns-clause-waits c = waiting_wait 32
