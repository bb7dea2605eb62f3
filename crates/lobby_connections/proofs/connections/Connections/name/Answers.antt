use Rattle.std.proofs.Common.{subst}
use Rattle.lobby_connections.proofs.Lines.{named_off, named_on}
use Rattle.lobby_connections.specs.Table.{LinesUp}
use Rattle.lobby_connections.specs.declared.poll_timeout.PollTimeout.TheVariants.{Zero}
use Rattle.lobby_connections.proofs.connections.Connections.name.Goals as goal

pub returns-then-not-push_name-clause-attended : goal.returns-then-not-push_name-clause-attended
returns-then-not-push_name-clause-attended c =
    let up = subst (λ u. LinesUp u c.line_up.new.self c.args.key Zero) (c.push_name.ensures.no c.if-not-push_name.true) c.line_up.ensures in
    named_off c.args.self.now c.claim.new.self c.line_up.new.self c.args.key Zero c.claim.ensures.rest c.claim.ensures.claims up

pub returns-else-not-push_name-clause-attended : goal.returns-else-not-push_name-clause-attended
returns-else-not-push_name-clause-attended c =
    named_on c.args.self.now c.claim.new.self c.push_name.new.self c.args.key c.claim.ensures.rest c.claim.ensures.claims (c.push_name.ensures.yes c.if-not-push_name.false)
