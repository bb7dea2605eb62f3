use Rattle.std.proofs.Common.{length, refl, sym, subst}
use Rattle.client_session.specs.Serving.{Serving}
use Rattle.lobby_lock.specs.Passes.{pass_after}
use Rattle.lobby_holds.specs.Snapshot.{among}
use Rattle.lobby_holds.specs.Holds.{StopsAt}
use Rattle.lobby_holds.proofs.holds.say_in.Goals as goal

pub returns-then-not-drains-clause-says : goal.returns-then-not-drains-clause-says
returns-then-not-drains-clause-says g c = λ others wire.
    let said = c.say_lines-said in
    record { between = among others said.new.conn wire (pass_after said.new.held); says = said.ensures.says others wire; wire = refl; unfed = said.ensures.unfed; behind = refl }

pub returns-then-not-drains-clause-stops : goal.returns-then-not-drains-clause-stops
returns-then-not-drains-clause-stops g c = (length c.say_lines-said.new.held.events, c.say_lines-said.ensures.stops)

pub returns-clause-says : goal.returns-clause-says
returns-clause-says g c = λ others wire.
    let said = c.say_lines-said in
    record {
      between = among others said.new.conn wire (pass_after said.new.held);
      says = said.ensures.says others wire;
      wire = refl;
      unfed = said.ensures.unfed;
      behind = c.drain_behind.ensures.drains others wire;
    }

pub returns-clause-stops : goal.returns-clause-stops
returns-clause-stops g c = (
  length c.say_lines-said.new.held.events,
  subst (λ (s : Serving). StopsAt c.args.most c.args.allowance s (length c.say_lines-said.new.held.events) c.say_lines-said.result) (sym c.drain_behind.ensures.session) c.say_lines-said.ensures.stops,
)
