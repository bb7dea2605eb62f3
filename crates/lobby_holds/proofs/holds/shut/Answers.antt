use Rattle.std.proofs.Common.{◌≡◌, ◌∙◌, ℕ, ◌+◌, ◌-◌, ◌%◌, ◌^◌, refl, [], ◌∷◌, ◌++◌, ap, subst, sym}
use Rattle.lobby_model.specs.declared.event.Event.TheVariants as event
use Rattle.lobby_post.specs.Mail.{IsWakes}
use Rattle.lobby_machine.specs.Work.{told_on}
use Rattle.lobby_holds.proofs.Counted.{counted_one}
use Rattle.lobby_holds.proofs.Joins.{held_none, held_one}
use Rattle.lobby_holds.proofs.Parts.{went_shut, went_held}
use Rattle.lobby_holds.proofs.holds.shut.Goals as goal

pub returns-in-Ok-clause-ok : goal.returns-in-Ok-clause-ok
returns-in-Ok-clause-ok g c = λ others wire.
    let held = c.take-held.result in
    let k = c.shut-shut.new.self in
    let one = subst (λ (d : ℕ). k ≡ record held { lobby = k.lobby; events = held.events ++ event.Shut d ∷ [] }) c.client.ensures c.in-Ok.ensures.event in
    record {
      met = held.lobby.plain;
      went = went_shut others c.args.conn.now wire c.args.pass c.give-pass.result held.lobby.plain
          (held_one c.args.pass c.give-pass.result held k (event.Shut c.args.conn.now.session.client) c.take-held.ensures.taken one c.give-pass.ensures.pass);
      wakes_are = subst (λ (d : ℕ). IsWakes held.lobby.plain (event.Shut d) c.in-Ok.wakes) c.client.ensures c.in-Ok.ensures.wakes;
      told_is =
          counted_one c.told-before.result c.told.result ((c.told.result + (2 ^ 64 - c.told-before.result)) % 2 ^ 64) held.lobby.plain (event.Shut c.args.conn.now.session.client) c.told-before.type_inv
          (ap (λ n. told_on n held.lobby.plain (event.Shut c.args.conn.now.session.client)) c.told-before.ensures
          ∙ subst (λ (d : ℕ). told_on held.lobby.told held.lobby.plain (event.Shut d) ≡ k.lobby.told) c.client.ensures (sym c.in-Ok.ensures.told)
          ∙ sym c.told.ensures) refl;
    }

pub returns-in-Err-clause-err : goal.returns-in-Err-clause-err
returns-in-Err-clause-err g c = λ others wire.
    went_held others c.args.conn.now wire c.args.pass c.give-pass.result
    (held_none c.args.pass c.give-pass.result c.take-held.result c.shut-shut.new.self c.take-held.ensures.taken c.in-Err.ensures.err c.give-pass.ensures.pass)
