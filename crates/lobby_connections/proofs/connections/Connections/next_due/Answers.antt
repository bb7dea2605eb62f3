use Rattle.std.proofs.Common.{◌∷◌, refl, sym, ◌∙◌, ap, subst}
use Rattle.lobby_connections.proofs.Lines.{passed, passed_all, stays_attended}
use Rattle.lobby_connections.specs.Attended.{IsAttended}
use Rattle.lobby_connections.specs.Claims.{claims_of}
use Rattle.lobby_connections.specs.Table.{next_key}
use Rattle.lobby_connections.specs.contracts.connections.Connections.{the_view}
use Rattle.lobby_connections.proofs.connections.Connections.next_due.Goals as goal

pub returns-clause-attended : goal.returns-clause-attended
returns-clause-attended c rest a =
    let t = the_view c.self.inside in
    let claims = claims_of c.call_up.new.seats in
    let b = subst (λ t. IsAttended t rest) (sym c.self.view_is) a in
    rw (c.call_up.ensures.seats.capacity, c.call_up.ensures.seats.count) (stays_attended t (passed t claims) rest (c.next_key-key.result ∷ rest) b refl (passed_all t claims c.next_key-key.result (c.next_key-key.ensures ∙ ap next_key (sym c.self.view_is)) c.call_up.ensures.claims rest b.all))
