use Rattle.std.proofs.lemmas.Grind.{common_steps}
use Rattle.std.proofs.Common.{arith}
use Rattle.lobby_hall.proofs.hall.Hall.new.Goals as goal

pub returns-in_err-new-clause-stands : goal.returns-in_err-new-clause-stands
returns-in_err-new-clause-stands c = grind (arith, common_steps)

pub returns-in_err-new-clause-schedule : goal.returns-in_err-new-clause-schedule
returns-in_err-new-clause-schedule c = grind (arith, common_steps)
