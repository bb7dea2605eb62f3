use Rattle.std.proofs.Common.{[], Some, sym, ◌∙◌, refl, drop}
use Rattle.lobby_hall.specs.Record.{log_at}
use Rattle.std.proofs.KnownBytes.{Appends-nil}
use Rattle.lobby_script.specs.Acts.{labelled}
use Rattle.lobby_script.proofs.Performs.{at_label, hall_stands, refused_acts, show_acts, order_acts}
use Rattle.lobby_script.proofs.player.Player.order.Goals as goal

pub returns-in_default-client-clause-ok : goal.returns-in_default-client-clause-ok
returns-in_default-client-clause-ok g c = λ scene at.
    let found = at_label c.args.self.now scene c.args.label (Some c.in-Some.entry) at (sym c.get.ensures.value ∙ sym c.copied.ensures ∙ c.in-Some.is) in
    ([], refused_acts c.args.self.now scene c.args.label c.in-Some.entry c.args.order at found c.in_default-client.is, Appends-nil _)

pub returns-in_ok-insert-clause-ok : goal.returns-in_ok-insert-clause-ok
returns-in_ok-insert-clause-ok g c = λ scene at.
    let found = at_label c.args.self.now scene c.args.label (Some c.in-Some.entry) at (sym c.get.ensures.value ∙ sym c.copied.ensures ∙ c.in-Some.is) in
    let does = show_acts c.args.self.now _ scene c.args.label c.in-Some.entry c.in-Some-client.client c.in-Some-hall.hall _ c.in_ok-shown.shown at found c.in-Some-client.is c.in-Some-hall.is refl c.in_ok-shown.ensures.stays c.in_ok-insert.ensures.entries c.in_ok-shown.ensures.all in
    (labelled c.args.label (drop c.in-Some.entry.shown (log_at c.in-Some-hall.hall.record_so_far c.in-Some-client.client).put), rw c.in-Show.is does, c.in_ok-shown.ensures.writes)

pub returns-in_ok-carry_out : goal.returns-in_ok-carry_out
returns-in_ok-carry_out g c = record {
  ok = λ scene at.
      let found = at_label c.args.self.now scene c.args.label (Some c.in-Some.entry) at (sym c.get.ensures.value ∙ sym c.copied.ensures ∙ c.in-Some.is) in
      let moves = c.in_ok-carry_out.ensures scene.prepared.settings scene.prepared.accounts scene.events scene.world (hall_stands c.args.self.now scene c.in-Some-hall.hall at c.in-Some-hall.is) in
      ([], order_acts c.args.self.now _ scene c.args.label c.in-Some.entry c.in-Some-client.client c.args.order c.in-Some-hall.hall c.carry_out.new.hall at found c.in-Some-client.is c.in_default-order.not-Show c.in-Some-hall.is refl moves, Appends-nil _);
  bad = λ e. absurd cc;
  device = λ e. absurd cc;
  unwritten = λ e. absurd cc;
  memory = λ e. absurd cc;
}
