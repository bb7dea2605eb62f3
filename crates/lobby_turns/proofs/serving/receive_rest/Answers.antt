use Rattle.std.proofs.Common.{refl, sym, subst}
use Rattle.std.specs.Prelude.{Option}
use Rattle.lobby_holds.specs.declared.holds.Chunk.{Chunk}
use Rattle.lobby_holds.specs.Snapshot.{among}
use Rattle.lobby_turns.specs.declared.receiving.Stage.{Stage}
use Rattle.lobby_turns.specs.Receiving.{IsAtStage, ReceivesThenDrains, share_of}
use Rattle.lobby_turns.proofs.Receivings.{came_of}
use Rattle.lobby_turns.proofs.serving.receive_rest.Goals as goal

pub returns-in-Receives-clause-receives : goal.returns-in-Receives-clause-receives
returns-in-Receives-clause-receives g c = λ old begun.
    let allowance = c.args.progress.allowance in
    let before = among old.others c.args.conn.now (g.L.Link.wire c.args.link.now) c.args.pass in
    let r = c.receive-pass in
    let after = among old.others r.new.conn (g.L.Link.wire r.new.link) r.result.0 in
    let e = c.end_of-state in
    let at = r.ensures.receives old (subst (λ (s : Stage). IsAtStage old before allowance s) c.in-Receives.is begun) in
    let received = subst (λ (s : Stage). IsAtStage old after allowance s) (e.ensures (r.ensures.over refl)) at in
    subst (λ (d : Option Chunk). ReceivesThenDrains old after (share_of allowance e.result.1.told) e.result.0 e.result.1.wakes d)
    (sym (c.still_drained.ensures.same (came_of received.between after e.result.2 received.behind))) received

pub returns-in-Received-clause-receives : goal.returns-in-Received-clause-receives
returns-in-Received-clause-receives g c = λ old begun.
    let allowance = c.args.progress.allowance in
    let after = among old.others c.args.conn.now (g.L.Link.wire c.args.link.now) c.args.pass in
    let all = c.in-Received.all in
    let received = subst (λ (s : Stage). IsAtStage old after allowance s) c.in-Received.is begun in
    subst (λ (d : Option Chunk). ReceivesThenDrains old after (share_of allowance all.told) c.in-Received.state all.wakes d)
    (sym (c.still_drained-in-Received.ensures.same (came_of received.between after c.in-Received.drained received.behind))) received
