use Rattle.std.proofs.Common.{◌≤◌, ◌+◌, List, length, sym, subst, arith}
use Rattle.lobby_model.specs.declared.event.Event.{Event}
use Rattle.lobby_holds.proofs.Drains.{drained_held}
use Rattle.lobby_holds.proofs.holds.drain_into.Goals as goal

pub drain_all-piece-requires-clause-few : goal.drain_all-piece-requires-clause-few
drain_all-piece-requires-clause-few g c = subst (λ (es : List Event). length es + 2 ≤ 32) (sym c.take-held.ensures.fresh) (omega arith)

pub returns : goal.returns
returns g c = drained_held c.args.pass c.give.result c.take-held.result c.drain_all-piece.new.held c.args.client _ _ _ c.take-held.ensures.taken c.give.ensures.pass c.drain_all-piece.ensures.drained
