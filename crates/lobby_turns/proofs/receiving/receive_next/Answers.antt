use Rattle.std.proofs.Common.{◌∙◌, [], refl, sym, subst, rules, Some}
use Rattle.lobby_holds.proofs.Kept.{kept}
use Rattle.lobby_turns.specs.declared.receiving.ReceiveState.TheVariants as receive
use Rattle.lobby_turns.specs.declared.receiving.Step.TheVariants as step
use Rattle.client_session.specs.declared.session.Next.{Next}
use Rattle.client_session.specs.OneSession.{IsNextOf}
use Rattle.lobby_holds.specs.Snapshot.{Carried, among}
use Rattle.lobby_turns.specs.Receiving.{has_bytes, has_line, ReceivesNext}
use Rattle.lobby_holds.proofs.Parts.{went_none}
use Rattle.lobby_holds.specs.Holds.{SaysThenDrains}
use Rattle.lobby_turns.proofs.Receivings.{said_step, done, drained_step, none_done, none_left, put_off, step_fed_first}
use Rattle.lobby_turns.proofs.receiving.receive_next.Goals as goal

pub returns-in-Err-clause-received : goal.returns-in-Err-clause-received
returns-in-Err-clause-received g c = λ others.
    let before = among others c.args.conn.now (g.L.Link.wire c.args.link.now) c.args.pass in
    subst (λ (x : Carried). ReceivesNext before (among others x (g.L.Link.wire c.args.link.now) c.args.pass) (step.Ends receive.Memory)) (sym c.in-Err.ensures.err.0) (none_done _ _ refl refl (went_none before) (has_bytes c.in-Err.ensures.err.1 c.in-Err.ensures.err.2))

pub returns-then-not-is_quiet-clause-received : goal.returns-then-not-is_quiet-clause-received
returns-then-not-is_quiet-clause-received g c = λ others.
    put_off _ _ refl c.in-Ok.ensures.unwritten (c.in-Ok.ensures.went others (g.L.Link.wire c.args.link.now) c.args.pass) c.in-Ok.ensures.fed
    (c.in-Ok-Line.request, subst (λ (x : Next). IsNextOf (Some c.feed.new.self.session) x) c.in-Ok-Line.field-0-is c.in-Ok-Line.ensures.ok, search rules)

pub returns-in-None-clause-received : goal.returns-in-None-clause-received
returns-in-None-clause-received g c = λ others.
    let wire = g.L.Link.wire c.args.link.now in
    let fed = among others c.feed.new.self wire c.args.pass in
    let after = among others c.say-pass.new.conn wire c.say-pass.result.0 in
    let said = c.say-pass.result.1 in
    step_fed_first (among others c.args.conn.now wire c.args.pass) fed after (step.Said said) (c.in-Ok.ensures.went others wire c.args.pass) refl c.in-Ok.ensures.unwritten
    (said_step fed after said (subst (λ d. SaysThenDrains fed after said d) c.in-None.is (c.say-pass.ensures.says others wire)))

pub returns-in-Some-clause-received : goal.returns-in-Some-clause-received
returns-in-Some-clause-received g c = λ others.
    let wire = g.L.Link.wire c.args.link.now in
    let fed = among others c.feed.new.self wire c.args.pass in
    let after = among others c.say-pass.new.conn wire c.say-pass.result.0 in
    let said = c.say-pass.result.1 in
    step_fed_first (among others c.args.conn.now wire c.args.pass) fed after (step.Drained said c.in-Some.piece) (c.in-Ok.ensures.went others wire c.args.pass) refl c.in-Ok.ensures.unwritten
    (drained_step fed after said c.in-Some.piece (subst (λ d. SaysThenDrains fed after said d) c.in-Some.is (c.say-pass.ensures.says others wire)))

pub returns-else-left-2-clause-received : goal.returns-else-left-2-clause-received
returns-else-left-2-clause-received g c = λ others. step_fed_first _ _ _ _ (c.in-Ok.ensures.went others (g.L.Link.wire c.args.link.now) c.args.pass) refl c.in-Ok.ensures.unwritten (c.receive_link.ensures.received others)

pub returns-in-Ok-Spoilt-clause-received : goal.returns-in-Ok-Spoilt-clause-received
returns-in-Ok-Spoilt-clause-received g c = λ others.
    none_left _ _ refl c.in-Ok.ensures.unwritten (c.in-Ok.ensures.went others (g.L.Link.wire c.args.link.now) c.args.pass)
    (subst (λ (x : Next). IsNextOf (Some c.feed.new.self.session) x) c.in-Ok-Spoilt.field-0-is c.in-Ok-Spoilt.ensures.ok)

pub returns-in-Err-next_request-clause-received : goal.returns-in-Err-next_request-clause-received
returns-in-Err-next_request-clause-received g c = λ others. none_done _ _ refl c.in-Ok.ensures.unwritten (c.in-Ok.ensures.went others (g.L.Link.wire c.args.link.now) c.args.pass) (has_line c.in-Err-next_request.ensures.line)

pub returns-else-left-2-clause-within : goal.returns-else-left-2-clause-within
returns-else-left-2-clause-within g c = c.receive_link.ensures.within c.args.left refl c.if-left-2.false

pub returns-then-left-2-clause-received : goal.returns-then-left-2-clause-received
returns-then-left-2-clause-received g c = λ others.
    done _ _ refl c.in-Ok.ensures.unwritten (c.in-Ok.ensures.went others (g.L.Link.wire c.args.link.now) c.args.pass) c.in-Ok.ensures.fed
    (subst (λ (x : Next). IsNextOf (Some c.feed.new.self.session) x) c.in-Ok-Nothing.field-0-is c.in-Ok-Nothing.ensures.ok)

pub returns-then-matches-clause-received : goal.returns-then-matches-clause-received
returns-then-matches-clause-received g c = λ others. step_fed_first _ _ _ _ (c.in-Ok.ensures.went others (g.L.Link.wire c.args.link.now) c.args.pass) refl c.in-Ok.ensures.unwritten (c.look_ahead.ensures.received others)

pub returns-then-matches-clause-within : goal.returns-then-matches-clause-within
returns-then-matches-clause-within g c = c.look_ahead.ensures.within c.args.left refl c.if-not-left.true

pub returns-in-None-clause-desk : goal.returns-in-None-clause-desk
returns-in-None-clause-desk g c = (kept _ _ _ (returns-in-None-clause-received g c []).went.joined.joined).0

pub returns-in-None-clause-number : goal.returns-in-None-clause-number
returns-in-None-clause-number g c = (kept _ _ _ (returns-in-None-clause-received g c []).went.joined.joined).1

pub returns-in-Some-clause-desk : goal.returns-in-Some-clause-desk
returns-in-Some-clause-desk g c =
    let s = returns-in-Some-clause-received g c [] in
    (kept _ _ _ s.rest.drains.went.joined.joined).0 ∙ (kept _ _ _ s.says.went.joined.joined).0

pub returns-in-Some-clause-number : goal.returns-in-Some-clause-number
returns-in-Some-clause-number g c =
    let s = returns-in-Some-clause-received g c [] in
    (kept _ _ _ s.rest.drains.went.joined.joined).1 ∙ (kept _ _ _ s.says.went.joined.joined).1
