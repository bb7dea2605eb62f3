use Rattle.std.proofs.Common.{length}
use Rattle.std.proofs.lemmas.Bool.{eqb-true, eqb-false}
use Rattle.lobby_model.specs.declared.event.Event.TheVariants as event
use Rattle.lobby_holds.proofs.Joins.{stands_more}
use Rattle.lobby_holds.proofs.Drains.{drained_once, some_came}
use Rattle.lobby_holds.proofs.holds.drain_once.Goals as goal

pub returns-clause-drained : goal.returns-clause-drained
returns-clause-drained c =
    let d = c.drain-drained.ensures in
    drained_once c.args.held.now c.drain-drained.new.self c.args.client (length c.args.into.now) c.drain-drained.new.into _ _ c.requires.small c.requires.stands d.event d.next d.count d.given d.finished
    (λ e. eqb-true c.drain-drained.result.count 0 e) (λ e. some_came c.drain-drained.result.count (eqb-false c.drain-drained.result.count 0 e))

pub returns-clause-stands : goal.returns-clause-stands
returns-clause-stands c =
    let d = c.drain-drained.ensures in
    stands_more c.args.held.now c.drain-drained.new.self (event.Drain c.args.client (length c.args.into.now)) c.requires.stands d.event d.next
