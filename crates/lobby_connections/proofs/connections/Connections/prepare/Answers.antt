use Rattle.lobby_connections.proofs.Lines.{room_attended}
use Rattle.lobby_connections.proofs.connections.Connections.prepare.Goals as goal

pub returns-then-is_err-clause-attended : goal.returns-then-is_err-clause-attended
returns-then-is_err-clause-attended c = room_attended c.args.self.now c.reserve.new.self c.reserve.ensures.rest c.reserve.ensures.claims c.reserve.ensures.bound

pub returns-clause-attended : goal.returns-clause-attended
returns-clause-attended c = room_attended c.args.self.now c.reserve.new.self c.reserve.ensures.rest c.reserve.ensures.claims c.reserve.ensures.bound
