use Rattle.std.proofs.Common.{refl, sym, subst, rules}
use Rattle.lobby_turns.specs.declared.receiving.ReceiveState.TheVariants as receive
use Rattle.lobby_turns.specs.declared.receiving.Step.TheVariants as step
use Rattle.lobby_holds.specs.declared.conn.Ahead.{Ahead}
use Rattle.lobby_holds.specs.Snapshot.{Carried, among}
use Rattle.lobby_holds.specs.Holds.{IsAhead}
use Rattle.lobby_turns.specs.Receiving.{has_bytes, ReceivesNext}
use Rattle.lobby_holds.proofs.Parts.{went_none}
use Rattle.lobby_turns.proofs.Receivings.{done, none_done, none_left, step_fed_first, waits}
use Rattle.lobby_turns.proofs.receiving.gather_next.Goals as goal

pub returns-in-Err-clause-received : goal.returns-in-Err-clause-received
returns-in-Err-clause-received g c = λ others.
    let before = among others c.args.conn.now (g.L.Link.wire c.args.link.now) c.args.pass in
    subst (λ (x : Carried). ReceivesNext before (among others x (g.L.Link.wire c.args.link.now) c.args.pass) (step.Ends receive.Memory)) (sym c.in-Err.ensures.err.0) (none_done _ _ refl refl (went_none before) (has_bytes c.in-Err.ensures.err.1 c.in-Err.ensures.err.2))

pub returns-in-Line-clause-received : goal.returns-in-Line-clause-received
returns-in-Line-clause-received g c = λ others. step_fed_first _ _ _ _ (c.in-Ok.ensures.went others (g.L.Link.wire c.args.link.now) c.args.pass) refl c.in-Ok.ensures.unwritten (c.look_ahead.ensures.received others)

pub returns-in-Line-clause-within : goal.returns-in-Line-clause-within
returns-in-Line-clause-within g c = c.look_ahead.ensures.within c.args.left refl (search rules)

pub returns-in-Line-2-clause-received : goal.returns-in-Line-2-clause-received
returns-in-Line-2-clause-received g c = λ others. waits _ _ refl c.in-Ok.ensures.unwritten (c.in-Ok.ensures.went others (g.L.Link.wire c.args.link.now) c.args.pass)

pub returns-in-Nothing-clause-received : goal.returns-in-Nothing-clause-received
returns-in-Nothing-clause-received g c = λ others.
    done _ _ refl c.in-Ok.ensures.unwritten (c.in-Ok.ensures.went others (g.L.Link.wire c.args.link.now) c.args.pass) c.in-Ok.ensures.fed
    (subst (λ (x : Ahead). IsAhead x c.feed.new.self.session) c.in-Nothing.is c.ahead.ensures)

pub returns-in-Nothing-2-clause-received : goal.returns-in-Nothing-2-clause-received
returns-in-Nothing-2-clause-received g c = λ others. step_fed_first _ _ _ _ (c.in-Ok.ensures.went others (g.L.Link.wire c.args.link.now) c.args.pass) refl c.in-Ok.ensures.unwritten (c.receive_link.ensures.received others)

pub returns-in-Nothing-2-clause-within : goal.returns-in-Nothing-2-clause-within
returns-in-Nothing-2-clause-within g c = c.receive_link.ensures.within c.args.left refl (search rules)

pub returns-in-Spoilt-clause-received : goal.returns-in-Spoilt-clause-received
returns-in-Spoilt-clause-received g c = λ others.
    none_left _ _ refl c.in-Ok.ensures.unwritten (c.in-Ok.ensures.went others (g.L.Link.wire c.args.link.now) c.args.pass)
    (subst (λ (x : Ahead). IsAhead x c.feed.new.self.session) c.in-Spoilt.is c.ahead.ensures)
