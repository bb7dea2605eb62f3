use Rattle.worker_loop.proofs.turns.adopt.Goals as goal

pub returns-in-Ok-clause-attended : goal.returns-in-Ok-clause-attended
returns-in-Ok-clause-attended g c rest a = c.put.ensures.attended rest (c.in-Some.ensures.attended rest a)
