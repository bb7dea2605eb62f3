use Rattle.std.proofs.Common.{refl}
use Rattle.lobby_turns.proofs.serving.send_rest.Goals as goal

pub returns-clause-sends : goal.returns-clause-sends
returns-clause-sends g c = λ others. c.send.ensures.sends _ others refl
