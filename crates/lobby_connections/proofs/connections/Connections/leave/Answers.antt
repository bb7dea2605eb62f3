use Rattle.std.proofs.Common.{subst}
use Rattle.lobby_connections.proofs.Lines.{left_all, lined_up, lines_claims, lines_leave}
use Rattle.lobby_connections.specs.Claims.{Changes, left_over, noted}
use Rattle.lobby_connections.proofs.connections.Connections.leave.Goals as goal

pub mark_left-requires : goal.mark_left-requires
mark_left-requires c = lined_up c.args.self.now c.line_up.new.self c.args.key c.args.timeout c.line_up.ensures

pub returns-clause-leaves : goal.returns-clause-leaves
returns-clause-leaves c = lines_leave c.args.self.now c.line_up.new.self c.mark_left.new.self c.args.key c.args.timeout c.line_up.ensures c.mark_left.ensures.rest

pub returns-clause-claims : goal.returns-clause-claims
returns-clause-claims c =
    subst (λ cs. Changes cs c.mark_left.new.self.claims c.args.key (noted left_over)) (lines_claims c.args.self.now c.line_up.new.self c.args.key c.args.timeout c.line_up.ensures) c.mark_left.ensures.claims

pub returns-clause-attended : goal.returns-clause-attended
returns-clause-attended c =
    left_all c.args.self.now c.line_up.new.self c.mark_left.new.self c.args.key c.args.timeout c.line_up.ensures c.mark_left.ensures.rest c.mark_left.ensures.claims
