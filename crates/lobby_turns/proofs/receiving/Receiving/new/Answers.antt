use Rattle.lobby_turns.proofs.Receivings.{begins}
use Rattle.lobby_turns.proofs.receiving.Receiving.new.Goals as goal

pub returns : goal.returns
returns c = λ at. begins at _ c.none.ensures
