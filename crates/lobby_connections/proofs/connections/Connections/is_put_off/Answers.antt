use Rattle.lobby_connections.proofs.Lines.{in_line, left_attended, stays_attended}
use Rattle.std.proofs.Common.{refl}
use Rattle.lobby_connections.specs.declared.poll_timeout.PollTimeout.TheVariants.{Zero}
use Rattle.lobby_connections.proofs.connections.Connections.is_put_off.Goals as goal

pub returns-then-waits-clause-attended : goal.returns-then-waits-clause-attended
returns-then-waits-clause-attended c e rest a = stays_attended c.args.self.now c.args.self.now _ rest a refl (in_line c.args.self.now c.args.key (c.waits.ensures c.if-waits.true) rest a.all)

pub returns-clause-attended : goal.returns-clause-attended
returns-clause-attended c e rest a = left_attended c.args.self.now c.leave.new.self c.args.key Zero c.leave.ensures.leaves rest a (c.leave.ensures.attended rest)
