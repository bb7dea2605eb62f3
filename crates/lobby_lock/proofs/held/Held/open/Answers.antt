use Rattle.lobby_model.specs.declared.event.Event.TheVariants.{Open}
use Rattle.lobby_lock.proofs.Holds.{more}
use Rattle.lobby_lock.proofs.held.Held.open.Goals as goal

pub invariant_of-self : goal.invariant_of-self
invariant_of-self c = more _ _ _ _ _ _ _ c.self.invariant _ (Open c.args.ip c.args.home) _ _ c.in-Ok.ensures.ok.1 c.in-Ok.ensures.number c.add.ensures
