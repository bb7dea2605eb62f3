use Rattle.lobby_model.proofs.Balance.{nothing_unread}
use Rattle.lobby_model.proofs.Silent.{gets_nothing, stays_cut}
use Rattle.lobby_model.proofs.laws.cut_client_gets_nothing.Goals as goal

pub returns-clause-unread : goal.returns-clause-unread
returns-clause-unread c = nothing_unread

pub returns-clause-put : goal.returns-clause-put
returns-clause-put c = gets_nothing

pub returns-clause-stays : goal.returns-clause-stays
returns-clause-stays c = λ settings accounts history later number client end found cut. stays_cut settings accounts history later number client found cut end
