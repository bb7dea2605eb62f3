use Rattle.lobby_connections.proofs.Lines.{gone_all, lines_called, more_rest}
use Rattle.lobby_connections.specs.declared.poll_timeout.PollTimeout.TheVariants.{Zero, Short}
use Rattle.lobby_connections.proofs.connections.Connections.go_on.Goals as goal

pub returns-in-Again-clause-attended : goal.returns-in-Again-clause-attended
returns-in-Again-clause-attended c rest all = c.leave.ensures.attended rest (more_rest c.args.self.now c.args.key rest all)

pub returns-in-Memory-clause-attended : goal.returns-in-Memory-clause-attended
returns-in-Memory-clause-attended c rest all = c.leave-in-Memory.ensures.attended rest (more_rest c.args.self.now c.args.key rest all)

pub returns-in-Closed-clause-attended : goal.returns-in-Closed-clause-attended
returns-in-Closed-clause-attended c = gone_all c.args.self.now c.close.new.self c.args.key c.close.ensures.rest c.close.ensures.bound c.close.ensures.claims

pub returns-in-Again-clause-called : goal.returns-in-Again-clause-called
returns-in-Again-clause-called c = lines_called (record c.args.self.now { claims = c.leave.new.self.claims }) c.leave.new.self c.args.key Zero c.leave.ensures.leaves

pub returns-in-Memory-clause-called : goal.returns-in-Memory-clause-called
returns-in-Memory-clause-called c = lines_called (record c.args.self.now { claims = c.leave-in-Memory.new.self.claims }) c.leave-in-Memory.new.self c.args.key Short c.leave-in-Memory.ensures.leaves
