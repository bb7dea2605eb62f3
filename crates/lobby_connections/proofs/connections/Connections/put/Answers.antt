use Rattle.std.proofs.Common.{sym, ◌∙◌, subst}
use Rattle.lobby_connections.proofs.Lines.{came_attended, came_owes, lines_claims, lines_count, lines_stay}
use Rattle.lobby_connections.specs.Claims.{Changes, come}
use Rattle.lobby_connections.specs.declared.poll_timeout.PollTimeout.TheVariants.{Zero}
use Rattle.lobby_connections.proofs.connections.Connections.put.Goals as goal

pub returns-clause-rest : goal.returns-clause-rest
returns-clause-rest c = lines_stay c.args.self.now c.insert-key.new.self c.line_up.new.self c.insert-key.result Zero c.insert-key.ensures.rest c.line_up.ensures

pub returns-clause-count : goal.returns-clause-count
returns-clause-count c = lines_count c.insert-key.new.self c.line_up.new.self c.insert-key.result Zero c.line_up.ensures ∙ c.insert-key.ensures.count

pub returns-clause-owes : goal.returns-clause-owes
returns-clause-owes c = came_owes c.args.self.now c.insert-key.new.self c.line_up.new.self c.insert-key.result Zero c.insert-key.ensures.claims c.line_up.ensures

pub returns-clause-comes : goal.returns-clause-comes
returns-clause-comes c =
    subst (λ cs. Changes c.args.self.now.claims cs c.insert-key.result come) (sym (lines_claims c.insert-key.new.self c.line_up.new.self c.insert-key.result Zero c.line_up.ensures)) c.insert-key.ensures.claims

pub returns-clause-attended : goal.returns-clause-attended
returns-clause-attended c =
    let e = c.insert-key.ensures in
    came_attended c.args.self.now c.insert-key.new.self c.line_up.new.self c.insert-key.result Zero e.rest e.bound e.claims c.line_up.ensures
