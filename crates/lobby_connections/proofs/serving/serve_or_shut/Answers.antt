use Rattle.std.proofs.Common.{◌≡◌, rules, refl, subst}
use Rattle.lobby_holds.specs.Wire.{IsFresh, Wire}
use Rattle.lobby_holds.specs.declared.turn.TurnState.TheVariants as state
use Rattle.lobby_connections.proofs.Standings.{had_gave_up, had_just, served_gave_up}
use Rattle.lobby_connections.proofs.serving.serve_or_shut.Goals as goal

pub returns-then-ne-clause-had : goal.returns-then-ne-clause-had
returns-then-ne-clause-had g c = λ old sound fresh begun. had_just old c.finish_or_shut-pass.new.connection c.finish_or_shut-pass.new.connection _ _ _ _ refl refl (c.finish_or_shut-pass.ensures.turned old sound fresh begun)

pub returns-then-not-refuse-clause-had : goal.returns-then-not-refuse-clause-had
returns-then-not-refuse-clause-had g c = λ old sound fresh begun.
    let e = c.refuse.ensures in
    had_just old c.finish_or_shut-pass.new.connection _ _ _ _ _ e.conn e.link (c.finish_or_shut-pass.ensures.turned old sound (subst (λ (w : Wire). IsFresh w) e.link fresh) begun)

pub returns-clause-had : goal.returns-clause-had
returns-clause-had g c = λ old sound fresh begun.
    let e = c.refuse.ensures in
    let memory : c.finish_or_shut-pass.result.1.state ≡ state.Memory = search rules in
    had_gave_up old c.finish_or_shut-pass.new.connection _ _ _ _ _ _ memory e.conn e.link c.give_up_unread-pass.ensures.gives_up
    (c.finish_or_shut-pass.ensures.turned old sound (subst (λ (w : Wire). IsFresh w) e.link fresh) begun)

pub returns-clause-serves : goal.returns-clause-serves
returns-clause-serves g c = served_gave_up _ _ _ _ _ _ c.finish_or_shut-pass.ensures.serves c.refuse.ensures.conn c.give_up_unread-pass.ensures.gives_up
