use Rattle.std.proofs.Common.{refl}
use Rattle.lobby_model.specs.declared.event.Event.TheVariants.{Shut}
use Rattle.lobby_lock.proofs.Holds.{more}
use Rattle.lobby_lock.proofs.held.Held.shut.Goals as goal

pub invariant_of-self : goal.invariant_of-self
invariant_of-self c = more _ _ _ _ _ _ _ c.self.invariant _ (Shut c.args.client) _ _ c.in-Ok.ensures.ok refl c.add.ensures
