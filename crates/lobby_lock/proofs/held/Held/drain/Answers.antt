use Rattle.std.proofs.Common.{length}
use Rattle.lobby_model.specs.declared.event.Event.TheVariants.{Drain}
use Rattle.lobby_lock.proofs.Holds.{more}
use Rattle.lobby_lock.proofs.held.Held.drain.Goals as goal

pub invariant_of-self : goal.invariant_of-self
invariant_of-self c = more _ _ _ _ _ _ _ c.self.invariant _ (Drain c.args.client (length c.args.into.now)) _ _ c.drain-drained.ensures.next c.drain-drained.ensures.count c.add_drained.ensures
