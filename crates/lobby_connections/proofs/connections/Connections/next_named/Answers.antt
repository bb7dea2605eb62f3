use Rattle.std.proofs.Common.{◌≡◌, ◌++◌, refl, rules, sym, subst}
use Rattle.std.specs.Option.{option_to_list}
use Rattle.lobby_connections.proofs.Lines.{popped, stays_attended}
use Rattle.lobby_connections.specs.Attended.{IsAttended}
use Rattle.lobby_connections.specs.contracts.connections.Connections.{the_view}
use Rattle.lobby_connections.proofs.connections.Connections.next_named.Goals as goal

pub returns-clause-attended : goal.returns-clause-attended
returns-clause-attended c rest a =
    let e : c.self.inside.named.items ≡ c.pop.new.self.items ++ option_to_list c.pop.result = search rules in
    let b = subst (λ t. IsAttended t rest) (sym c.self.view_is) a in
    let t = the_view c.self.inside in
    let u = record t { named = c.pop.new.self.items } in
    stays_attended t u rest (option_to_list c.pop.result ++ rest) b refl (popped t u c.pop.result e (λ other h. h) refl rest b.all)
