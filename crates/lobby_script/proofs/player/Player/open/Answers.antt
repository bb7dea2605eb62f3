use Rattle.std.proofs.Common.{◌≡◌, sym, ap, ◌∙◌, subst}
use Rattle.lobby_hall.specs.Standing.{Kept, Stands}
use Rattle.lobby_script.specs.declared.player.Player.{Player}
use Rattle.lobby_script.proofs.Performs.{no_such_label, open_acts, hall_stands, first_stands}
use Rattle.lobby_script.proofs.player.Player.open.Goals as goal
use Rattle.lobby_script.proofs.player.Player.open.Goals.{in-Some+in_ok-client-in-Some, in-None+in_ok-open-in-None+in_ok-client-in-None}

pub returns-clause-ok : goal.returns-clause-ok
returns-clause-ok c = λ scene at.
    let player = c.args.self.now in
    let free = no_such_label player scene c.args.label c.contains_key.result at c.contains_key.ensures c.if-contains_key.false in
    elim c.match-self.branch [
      | in-Some+in_ok-client-in-Some w ↦
          let stands = hall_stands player scene _ at w.in-Some.is in
          let labels : c.match-self.self.labels.entries ≡ player.labels.entries = ap (λ (p : Player). p.labels.entries) w.self-is in
          open_acts player _ scene c.args.label c.args.ip c.match-self.client w.connect.new.hall at free
          (w.in_ok-client-in-Some.ensures.moves scene.prepared.settings scene.prepared.accounts scene.events scene.world stands)
          (w.client-is ∙ w.in_ok-client-in-Some.ensures.number scene.prepared.settings scene.prepared.accounts scene.events scene.world stands)
          (ap (λ (p : Player). p.hall) w.self-is) (rw labels at c.in_ok-insert.ensures.entries)
      | in-None+in_ok-open-in-None+in_ok-client-in-None w ↦
          let first = first_stands player scene _ at w.in-None.is w.in_ok-open-in-None.ensures.ok in
          let stands : Stands w.insert.result.now scene.prepared.settings scene.prepared.accounts scene.events scene.world =
          subst (λ (h : Kept). Stands h scene.prepared.settings scene.prepared.accounts scene.events scene.world) (sym w.insert.ensures.value) first in
          let labels : c.match-self.self.labels.entries ≡ player.labels.entries = ap (λ (p : Player). p.labels.entries) w.self-is in
          open_acts player _ scene c.args.label c.args.ip c.match-self.client w.connect-in-None.new.hall at free
          (w.in_ok-client-in-None.ensures.moves scene.prepared.settings scene.prepared.accounts scene.events scene.world stands)
          (w.client-is ∙ w.in_ok-client-in-None.ensures.number scene.prepared.settings scene.prepared.accounts scene.events scene.world stands)
          (ap (λ (p : Player). p.hall) w.self-is) (rw labels at c.in_ok-insert.ensures.entries)
    ]
