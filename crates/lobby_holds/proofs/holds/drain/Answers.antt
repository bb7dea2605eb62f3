use Rattle.std.proofs.Common.{◌≤◌, ◌+◌, List, length, sym, subst, refl, ap, arith}
use Rattle.lobby_model.specs.declared.event.Event.{Event}
use Rattle.lobby_holds.specs.Snapshot.{Carried, among}
use Rattle.lobby_holds.specs.Holds.{Drains}
use Rattle.lobby_holds.proofs.Drains.{drains_held, grew}
use Rattle.lobby_holds.proofs.holds.drain.Goals as goal

pub drain_pieces-piece-requires-clause-few : goal.drain_pieces-piece-requires-clause-few
drain_pieces-piece-requires-clause-few g c = subst (λ (es : List Event). length es + 8 ≤ 32) (sym c.take-held.ensures.fresh) (omega arith)

pub returns-clause-ok : goal.returns-clause-ok
returns-clause-ok g c = λ others wire.
    let held = c.take-held.result in
    let drained = c.drain_pieces-piece in
    let old : Carried = record { session = c.conn.inside.session; unfed = c.conn.inside.unfed.bytes; unwritten = c.conn.inside.unwritten.bytes } in
    let new : Carried = record { session = c.conn.inside.session; unfed = c.conn.inside.unfed.bytes; unwritten = drained.new.unwritten.bytes } in
    subst (λ (x : Carried). Drains (among others x wire c.args.pass) (among others new wire c.give.result) drained.result.finished drained.result.dry) c.conn.view_is (
    drains_held others old new wire c.args.pass c.give.result held drained.new.held c.client-client.result _ _ _ c.take-held.ensures.taken c.give.ensures.pass c.take-held.ensures.fresh drained.ensures.pass (omega (arith, drained.ensures.count, ap length c.take-held.ensures.fresh))
    c.client-client.ensures drained.ensures.drained refl refl (sym c.make_room.ensures.bytes) refl)

pub returns-clause-came : goal.returns-clause-came
returns-clause-came g c = λ some none. grew _ _ (c.drain_pieces-piece.ensures.drained.came some) none
