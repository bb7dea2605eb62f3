use Rattle.std.proofs.Common.{sym, subst}
use Rattle.lobby_connections.specs.Attended.{InLine}
use Rattle.lobby_connections.proofs.connections.Connections.waits.Goals as goal

pub returns-in-Some : goal.returns-in-Some
returns-in-Some c h = subst (λ t. InLine t c.args.key) c.self.view_is (c.self.invariant.stands c.args.key c.in-Some.claim (sym c.in-Some.ensures) h)
