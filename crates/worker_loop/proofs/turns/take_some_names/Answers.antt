use Rattle.worker_loop.proofs.turns.take_some_names.Goals as goal

pub returns-clause-attended : goal.returns-clause-attended
returns-clause-attended g c rest a = c.name_called.ensures.attended rest (c.take_names.ensures.attended rest a)
