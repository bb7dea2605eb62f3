use Rattle.std.proofs.Common.{[], arith, refl}
use Rattle.lobby_holds.specs.Snapshot.{among}
use Rattle.lobby_turns.proofs.Served.{served_closed, served_then}
use Rattle.lobby_turns.proofs.Turns.{must_shut, may_rest, turned_open, turned_closed}
use Rattle.lobby_turns.proofs.serving.finish.Goals as goal

pub returns-in-Some-clause-turned : goal.returns-in-Some-clause-turned
returns-in-Some-clause-turned g c = λ old begun.
    let e = c.in-Some.ensures in
    let r = c.receive_rest-pass.ensures.receives old begun in
    let after = among old.others c.send-pass.new.conn (g.L.Link.wire c.send-pass.new.link) c.send-pass.result.0 in
    turned_open _ _ _ _ _ _ _ _ r.receives (c.send-pass.ensures.sends r.between old.others r.behind) (e.goes_on (λ none. absurd (cc (none)))) (may_rest after _ _ _ c.last_got.result c.last_got.ensures e.idle e.again e.memory e.closed)

pub returns-in-None-clause-turned : goal.returns-in-None-clause-turned
returns-in-None-clause-turned g c = λ old begun.
    let wire = g.L.Link.wire c.send-pass.new.link in
    let after = among old.others c.send-pass.new.conn wire c.send-pass.result.0 in
    let r = c.receive_rest-pass.ensures.receives old begun in
    rw c.note_end.ensures (turned_closed _ _ _ _ _ _ _ _ _ _ _ _ r.receives (c.send-pass.ensures.sends r.between old.others r.behind)
    (must_shut after _ _ c.last_got.result c.last_got.ensures (c.in-None.ensures.shut refl)) refl refl (rw c.note_end.ensures at (c.close-pass.ensures.closes old.others wire)) (λ small. omega (arith, c.saturating_add.ensures, small)))

pub returns-in-Some-clause-serves : goal.returns-in-Some-clause-serves
returns-in-Some-clause-serves g c = served_then _ _ _ _ _ _ c.receive_rest-pass.ensures.serves c.send-pass.ensures.serves

pub returns-in-None-clause-serves : goal.returns-in-None-clause-serves
returns-in-None-clause-serves g c =
    let wire = g.L.Link.wire c.send-pass.new.link in
    rw c.note_end.ensures (served_then _ _ _ _ _ _ (served_then _ _ _ _ _ _ c.receive_rest-pass.ensures.serves c.send-pass.ensures.serves)
    (rw c.note_end.ensures at (served_closed _ _ _ _ _ _ refl (c.close-pass.ensures.closes [] wire))))
