use Rattle.lobby_hall.proofs.Answered.{scheduled}
use Rattle.lobby_hall.proofs.hall.Hall.step.Goals as goal

pub returns-clause-schedule : goal.returns-clause-schedule
returns-clause-schedule c = scheduled c.args.self.now c.take_step.new.self c.args.step.now c.in_ok-take_step.ensures.ok
