use Rattle.std.proofs.Common.{◌≡◌, ℕ, [], ◌∷◌, ◌++◌, subst, sym}
use Rattle.lobby_model.specs.declared.event.Event.TheVariants as event
use Rattle.lobby_post.specs.Mail.{IsWakes}
use Rattle.lobby_machine.specs.Work.{told_on}
use Rattle.lobby_lock.specs.Passes.{pass_after}
use Rattle.lobby_holds.proofs.Joins.{joined_more}
use Rattle.lobby_holds.proofs.Lines.{accepts}
use Rattle.lobby_holds.proofs.Parts.{went_said}
use Rattle.lobby_holds.proofs.holds.say_line.Goals as goal

pub returns-in-Ok-clause-ok : goal.returns-in-Ok-clause-ok
returns-in-Ok-clause-ok g c = λ others wire.
    let h = c.args.held.now in
    let k = c.say.new.self in
    let request = c.args.request in
    let one = subst (λ (d : ℕ). k ≡ record h { lobby = k.lobby; events = h.events ++ event.Say d request ∷ [] }) c.client.ensures c.in-Ok.ensures.event in
    rw c.note.ensures (record {
      met = h.lobby.plain;
      went = went_said others c.args.conn.now c.accept.new.self wire (pass_after h) (pass_after k) h.lobby.plain request c.accept.ensures.client c.accept.ensures.unfed c.accept.ensures.unwritten
          c.requires.next (accepts c.args.conn.now.session c.accept.new.self.session request c.accept.ensures.session)
          (joined_more h k (event.Say c.args.conn.now.session.client request) c.requires.stands one);
      wakes_are = subst (λ (d : ℕ). IsWakes h.lobby.plain (event.Say d request) c.in-Ok.said.wakes) c.client.ensures c.in-Ok.ensures.wakes;
      told_is = sym (subst (λ (d : ℕ). k.lobby.told ≡ told_on h.lobby.told h.lobby.plain (event.Say d request)) c.client.ensures c.in-Ok.ensures.told);
    })
