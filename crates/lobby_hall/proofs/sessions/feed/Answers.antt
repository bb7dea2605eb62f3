use Rattle.std.proofs.lemmas.Grind.{common_steps}
use Rattle.std.proofs.Common.{arith}
use Rattle.lobby_hall.proofs.sessions.feed.Goals as goal

pub returns-in_default-clause-fed : goal.returns-in_default-clause-fed
returns-in_default-clause-fed c = grind (arith, common_steps)

pub returns-in_default-clause-others : goal.returns-in_default-clause-others
returns-in_default-clause-others c = grind (arith, common_steps)

pub returns-in_default-clause-same_length : goal.returns-in_default-clause-same_length
returns-in_default-clause-same_length c = grind (arith, common_steps)

pub returns-in_default-clause-err : goal.returns-in_default-clause-err
returns-in_default-clause-err c = grind (arith, common_steps)

pub returns-then-index-len-clause-others : goal.returns-then-index-len-clause-others
returns-then-index-len-clause-others c = grind (arith, common_steps)

pub returns-then-index-len-clause-same_length : goal.returns-then-index-len-clause-same_length
returns-then-index-len-clause-same_length c = grind (arith, common_steps)

pub returns-then-index-len-clause-err : goal.returns-then-index-len-clause-err
returns-then-index-len-clause-err c = grind (arith, common_steps)

pub returns-clause-err : goal.returns-clause-err
returns-clause-err c = grind (arith, common_steps)
