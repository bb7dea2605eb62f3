use Rattle.lobby_lock.proofs.place.fetch.Goals as goal

pub try_pop_as-requires-clause-rule : goal.try_pop_as-requires-clause-rule
try_pop_as-requires-clause-rule g c = rw c.loop.invariant.3 (c.requires.rule _)
