use Rattle.std.proofs.Common.{refl}
use Rattle.lobby_model.specs.declared.event.Event.TheVariants.{Say}
use Rattle.lobby_lock.proofs.Holds.{more}
use Rattle.lobby_lock.proofs.held.Held.say.Goals as goal

pub invariant_of-self : goal.invariant_of-self
invariant_of-self c = more _ _ _ _ _ _ _ c.self.invariant _ (Say c.args.client c.args.request) _ _ c.in-Ok.ensures.ok refl c.add.ensures

pub invariant_of-self-else-keeps : goal.invariant_of-self-else-keeps
invariant_of-self-else-keeps c = more _ _ _ _ _ _ _ c.self.invariant _ (Say c.args.client c.args.request) _ _ c.in-Ok.ensures.ok refl c.add_unkept.ensures
