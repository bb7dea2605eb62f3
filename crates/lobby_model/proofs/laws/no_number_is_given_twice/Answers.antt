use Rattle.lobby_model.proofs.Balance.{is_numbered}
use Rattle.lobby_model.proofs.Origins.{last_after}
use Rattle.lobby_model.proofs.Silent.{gone_after}
use Rattle.lobby_model.proofs.Numbers.{later_is_greater, given_has_client, was_given}
use Rattle.lobby_model.proofs.laws.no_number_is_given_twice.Goals as goal

pub returns-clause-later : goal.returns-clause-later
returns-clause-later c = later_is_greater

pub returns-clause-last : goal.returns-clause-last
returns-clause-last c = last_after

pub returns-clause-client : goal.returns-clause-client
returns-clause-client c = given_has_client

pub returns-clause-given : goal.returns-clause-given
returns-clause-given c = was_given

pub returns-clause-numbers : goal.returns-clause-numbers
returns-clause-numbers c = is_numbered

pub returns-clause-gone : goal.returns-clause-gone
returns-clause-gone c = gone_after
