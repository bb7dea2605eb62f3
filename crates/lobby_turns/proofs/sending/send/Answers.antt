use Rattle.std.proofs.Common.{◌≡◌, [], refl, subst}
use Rattle.lobby_holds.specs.Snapshot.{among}
use Rattle.lobby_holds.specs.Holds.{DrainsBehind}
use Rattle.lobby_turns.specs.declared.sending.SendState.TheVariants as send
use Rattle.lobby_turns.specs.Sending.{Sends}
use Rattle.lobby_turns.proofs.Served.{served_first, served_then, served_went}
use Rattle.lobby_turns.proofs.Sendings.{no_write, rest_only, sending_none, sends_asked}
use Rattle.lobby_turns.proofs.sending.send.Goals as goal

pub returns-in-Some-clause-sends : goal.returns-in-Some-clause-sends
returns-in-Some-clause-sends g c = λ before others d.
    let now = among others c.args.conn.now (g.L.Link.wire c.args.link.now) c.args.pass in
    let rest = subst (λ o. DrainsBehind before now o) c.in-Some.is d in
    c.send_on.ensures.sends before before others (sending_none before rest.written) (c.send_piece-pass.ensures.sends before others rest.drains (rest_only before now _ rest))

pub returns-then-finished-clause-sends : goal.returns-then-finished-clause-sends
returns-then-finished-clause-sends g c = λ before others d.
    let wire = g.L.Link.wire c.args.link.now in
    let now = among others c.args.conn.now wire c.args.pass in
    let same : now ≡ before = subst (λ o. DrainsBehind before now o) c.in_default.is d in
    let asked = c.ask_first-pass.ensures.finished c.if-finished.true in
    subst (λ x. Sends x (among others c.write_out.new.conn (g.L.Link.wire c.write_out.new.link) c.ask_first-pass.result.0) send.Finished) same
    (sends_asked now _ _ _ asked.0 refl (no_write _ _ refl refl refl) (asked.1 others wire) (c.write_out.ensures others))

pub returns-clause-sends : goal.returns-clause-sends
returns-clause-sends g c = λ before others d.
    let wire = g.L.Link.wire c.args.link.now in
    let now = among others c.args.conn.now wire c.args.pass in
    let same : now ≡ before = subst (λ o. DrainsBehind before now o) c.in_default.is d in
    subst (λ x. Sends x (among others c.send_on-2.new.conn (g.L.Link.wire c.send_on-2.new.link) c.send_on-2.result.0) c.send_on-2.result.1) same
    (c.send_on-2.ensures.sends now _ others (c.ask_first-pass.ensures.on c.if-finished.false others wire) (c.send_next-pass.ensures.sends others))

pub returns-in-Some-clause-serves : goal.returns-in-Some-clause-serves
returns-in-Some-clause-serves g c =
    let first = c.send_piece-pass.ensures in
    served_then _ _ _ _ _ _ (served_first _ _ _ _ first.client first.pass) c.send_on.ensures.serves

pub returns-then-finished-clause-serves : goal.returns-then-finished-clause-serves
returns-then-finished-clause-serves g c =
    let wire = g.L.Link.wire c.args.link.now in
    served_then _ _ _ _ _ _ (served_went _ _ _ refl ((c.ask_first-pass.ensures.finished c.if-finished.true).1 [] wire).went) (served_went _ _ _ refl (c.write_out.ensures []).went)

pub returns-clause-serves : goal.returns-clause-serves
returns-clause-serves g c =
    let wire = g.L.Link.wire c.args.link.now in
    served_then _ _ _ _ _ _ (served_went _ _ _ refl (c.ask_first-pass.ensures.on c.if-finished.false [] wire).went)
    (served_then _ _ _ _ _ _ (served_went _ _ _ refl (c.send_next-pass.ensures.sends []).went) c.send_on-2.ensures.serves)
