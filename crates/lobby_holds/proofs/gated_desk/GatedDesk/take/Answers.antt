use Rattle.std.proofs.Common.{◌∙◌, ap}
use Rattle.lobby_holds.proofs.Joins.{stands_taken}
use Rattle.lobby_holds.proofs.gated_desk.GatedDesk.take.Goals as goal

pub returns-clause-taken : goal.returns-clause-taken
returns-clause-taken g c =
    let t = c.take.ensures in
    record { pass_is = t.pass; later = t.later; own = t.own; known = t.known; stands = t.stands; fresh = t.fresh }

pub returns-clause-stands : goal.returns-clause-stands
returns-clause-stands g c = stands_taken c.args.pass c.take.result (returns-clause-taken g c)

pub returns-clause-desk : goal.returns-clause-desk
returns-clause-desk g c = ap (λ p. p.desk) c.take.ensures.pass ∙ c.requires
