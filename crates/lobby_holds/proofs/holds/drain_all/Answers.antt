use Rattle.std.proofs.Common.{◌≡◌, length, refl, ◌∙◌, arith}
use Rattle.lobby_holds.proofs.Drains.{rest_length, drained_twice}
use Rattle.lobby_holds.proofs.holds.drain_all.Goals as goal

pub returns-clause-drained : goal.returns-clause-drained
returns-clause-drained c =
    let first = c.drain_once-first.ensures.drained in
    let rest = c.drain_once-rest.ensures.drained in
    let into = c.drain_once-first.new.into in
    let long : length into ≡ length c.args.into.now = c.drain_once-first.auto.into in
    let behind = rest_length c.drain_once-first.result.count into first.few in
    drained_twice _ _ _ _ _ _ _ _ _ _ _ _ first rest c.if-first.false (omega (arith, behind, c.if-first-into.false)) (behind ∙ long) refl refl refl
