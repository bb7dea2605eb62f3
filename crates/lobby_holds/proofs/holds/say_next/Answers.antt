use Rattle.lobby_holds.proofs.Sayings.{says_one}
use Rattle.lobby_holds.proofs.holds.say_next.Goals as goal

pub returns-in-Ok-clause-says : goal.returns-in-Ok-clause-says
returns-in-Ok-clause-says g c = λ others wire. says_one _ _ _ _ _ _ (c.in-Ok.ensures.ok others wire) c.in-Ok.ensures.unwritten
