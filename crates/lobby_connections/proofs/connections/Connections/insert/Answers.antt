use Rattle.std.proofs.Common.{◌≤◌, refl, sym, ap, subst, arith}
use Rattle.std.specs.Prelude.{Some}
use Rattle.lobby_connections.proofs.Lines.{come_fresh, seated_table, wider_line}
use Rattle.lobby_connections.proofs.Notes.{updated}
use Rattle.lobby_connections.specs.Claims.{Changes, claims_of, come}
use Rattle.lobby_connections.specs.Table.{Table}
use Rattle.lobby_connections.specs.contracts.connections.Connections.{the_view}
use Rattle.lobby_connections.specs.declared.seat.Claim.{Claim}
use Rattle.lobby_connections.proofs.connections.Connections.insert.Goals as goal

pub invariant_of-self : goal.invariant_of-self
invariant_of-self c =
    let e = c.insert_reserved-key.ensures in
    let t = the_view c.self.inside in
    let u : Table = record t { claims = claims_of c.insert_reserved-key.new.self; key_bound = c.insert_reserved-key.new.self.capacity } in
    let b : t.key_bound ≤ u.key_bound = omega (arith, e.capacity) in
    let i = seated_table t u c.insert_reserved-key.result come come_fresh (λ k g. e.key_in_range) c.self.invariant
    (updated c.self.inside.slab c.insert_reserved-key.new.self c.insert_reserved-key.result (Some c.new-seat.result) come e.updates (ap (λ (k : Claim). Some k) (sym c.new-seat.ensures)))
    b (wider_line t u refl refl refl refl refl b) c.self.invariant.awake in
    record { in_range = i.in_range; stands = i.stands; awake = i.awake }

pub returns-clause-claims : goal.returns-clause-claims
returns-clause-claims c =
    let e = c.insert_reserved-key.ensures in
    subst (λ t. Changes t.claims (claims_of c.insert_reserved-key.new.self) c.insert_reserved-key.result come) c.self.view_is
    (updated c.self.inside.slab c.insert_reserved-key.new.self c.insert_reserved-key.result (Some c.new-seat.result) come e.updates (ap (λ (k : Claim). Some k) (sym c.new-seat.ensures)))
