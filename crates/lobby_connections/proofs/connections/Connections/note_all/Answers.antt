use Rattle.std.proofs.Common.{◌<◌, ◌∙◌, length, arith, refl, sym, ap, subst}
use Rattle.std.proofs.lemmas.List.{take_all}
use Rattle.std.specs.List.{Contains}
use Rattle.lobby_connections.proofs.Lines.{more_all, nobody_in}
use Rattle.lobby_connections.proofs.Told.{note_all_but, note_step}
use Rattle.lobby_connections.specs.Table.{Table}
use Rattle.lobby_connections.specs.Told.{keys_of}
use Rattle.lobby_connections.proofs.connections.Connections.note_all.Goals as goal

pub loop-event-init : goal.loop-event-init
loop-event-init c = record {
  told = λ key m w. absurd (nobody_in key m);
  rest = refl;
  attended = λ all. more_all c.args.self.now (keys_of c.args.events.now) all;
}

pub loop-event-preserved : goal.loop-event-preserved
loop-event-preserved c =
    let i = c.loop-event.invariant in
    let e = c.note.ensures in
    let lt : c.loop-event.event-index < length c.args.events.now = omega arith in
    record {
      told = note_step c.args.events.now c.loop-event.event-index _ c.loop-event.self c.note.new.self lt e.claims i.told;
      rest = e.rest ∙ ap (λ (t : Table). record t { claims = c.note.new.self.claims }) i.rest;
      attended = λ all. note_all_but c.args.events.now c.loop-event.event-index _ c.loop-event.self c.note.new.self lt e.rest e.claims (i.attended all);
    }

pub returns-clause-told : goal.returns-clause-told
returns-clause-told c key m w =
    c.loop-event.invariant.told key (subst (λ es. Contains (keys_of es) key) (sym (take_all c.loop-event.event-index c.args.events.now (omega arith))) m) w
