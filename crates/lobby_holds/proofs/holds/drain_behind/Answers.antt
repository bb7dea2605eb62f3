use Rattle.std.proofs.Common.{◌≡◌, List, [], ℕ, refl, sym, ap, ◌∙◌, subst}
use Rattle.std.specs.Prelude.{Some}
use Rattle.lobby_lock.specs.Passes.{pass_after}
use Rattle.client_session.specs.Serving.{Serving}
use Rattle.client_session.specs.declared.session.Next.TheVariants.{Nothing}
use Rattle.client_session.specs.OneSession.{IsNextOf}
use Rattle.lobby_holds.specs.Snapshot.{Carried, among}
use Rattle.lobby_holds.specs.Holds.{DrainsBehind}
use Rattle.lobby_holds.proofs.Drains.{drains_behind, grew}
use Rattle.lobby_holds.proofs.holds.drain_behind.Goals as goal

abbrev carried : Serving → List ℕ → List ℕ → Carried
carried session unfed unwritten = record { session = session; unfed = unfed; unwritten = unwritten }

pub returns-clause-drains : goal.returns-clause-drains
returns-clause-drains c = λ others wire.
    let d = c.drain_pieces in
    let old : Carried = record { session = c.conn.inside.session; unfed = c.conn.inside.unfed.bytes; unwritten = c.conn.inside.unwritten.bytes } in
    let new : Carried = record { session = c.conn.inside.session; unfed = c.conn.inside.unfed.bytes; unwritten = d.new.unwritten.bytes } in
    let none = subst (λ (x : Carried). x.unwritten ≡ []) (sym c.conn.view_is) (c.is_written.ensures.0 c.if-not-is_written.false) in
    let nothing = subst (λ (x : Carried). IsNextOf (Some x.session) Nothing) (sym c.conn.view_is) (c.has_nothing_next.ensures c.if-not-has_nothing_next.false) in
    subst (λ (x : Carried). DrainsBehind (among others x wire (pass_after c.args.held.now)) (among others new wire (pass_after d.new.held)) (Some d.result)) c.conn.view_is (record {
      drains = drains_behind others old new wire c.args.held.now d.new.held c.client-client.result _ _ _ d.ensures.pass d.ensures.count c.client-client.ensures d.ensures.drained refl refl (sym c.make_room.ensures.bytes) refl;
      came = λ some empty. grew _ _ (d.ensures.drained.came some) empty;
      written = none;
      nothing = nothing;
      session = refl;
      unfed = refl;
      wire = refl;
    })

pub returns-then-count-clause-drains : goal.returns-then-count-clause-drains
returns-then-count-clause-drains c = λ others wire. refl

pub returns-then-not-has_nothing_next-clause-drains : goal.returns-then-not-has_nothing_next-clause-drains
returns-then-not-has_nothing_next-clause-drains c = λ others wire. refl

pub returns-then-is_err-clause-drains : goal.returns-then-is_err-clause-drains
returns-then-is_err-clause-drains c = λ others wire.
    ap (λ (x : Carried). among others x wire (pass_after c.args.held.now)) (ap (carried c.conn.inside.session c.conn.inside.unfed.bytes) c.make_room.ensures.bytes ∙ c.conn.view_is)
