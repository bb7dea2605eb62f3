use Rattle.lobby_lock.proofs.Holds.{same}
use Rattle.lobby_lock.proofs.held.Held.next_dirty.Goals as goal

pub invariant_of-self : goal.invariant_of-self
invariant_of-self c = same _ _ _ _ _ _ _ c.self.invariant _ c.next_dirty.ensures.plain
