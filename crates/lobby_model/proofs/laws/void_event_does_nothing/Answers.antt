use Rattle.lobby_model.proofs.Void.{same_state, puts_nothing, takes_nothing}
use Rattle.lobby_model.proofs.laws.void_event_does_nothing.Goals as goal

pub returns-clause-state : goal.returns-clause-state
returns-clause-state c = same_state

pub returns-clause-put : goal.returns-clause-put
returns-clause-put c = puts_nothing

pub returns-clause-taken : goal.returns-clause-taken
returns-clause-taken c = takes_nothing
