use Rattle.std.proofs.Common.{◌≤◌, refl, subst, arith}
use Rattle.std.specs.Prelude.{None}
use Rattle.lobby_connections.proofs.Lines.{gone_fresh, seated_table, wider_line}
use Rattle.lobby_connections.proofs.Notes.{updated}
use Rattle.lobby_connections.specs.Claims.{Changes, claims_of, gone}
use Rattle.lobby_connections.specs.Table.{Table}
use Rattle.lobby_connections.specs.contracts.connections.Connections.{the_view}
use Rattle.lobby_connections.proofs.connections.Connections.remove.Goals as goal

pub invariant_of-self-2 : goal.invariant_of-self-2
invariant_of-self-2 c =
    let e = c.try_remove.ensures in
    let t = the_view c.self.inside in
    let u : Table = record t { claims = claims_of c.try_remove.new.self; key_bound = c.try_remove.new.self.capacity } in
    let b : t.key_bound ≤ u.key_bound = omega (arith, e.capacity) in
    let i = seated_table t u c.args.key gone gone_fresh (λ k g. absurd (cc g)) c.self.invariant
    (updated c.self.inside.slab c.try_remove.new.self c.args.key None gone e.updates refl)
    b (wider_line t u refl refl refl refl refl b) c.self.invariant.awake in
    record { in_range = i.in_range; stands = i.stands; awake = i.awake }

pub returns-clause-claims : goal.returns-clause-claims
returns-clause-claims c =
    subst (λ t. Changes t.claims (claims_of c.try_remove.new.self) c.args.key gone) c.self.view_is
    (updated c.self.inside.slab c.try_remove.new.self c.args.key None gone c.try_remove.ensures.updates refl)
