use Rattle.worker_loop.proofs.Kept.{hurried}
use Rattle.worker_loop.proofs.worker.WorkerLoop.begin_round.Goals as goal

pub returns-then-not-is_polled-clause-attended : goal.returns-then-not-is_polled-clause-attended
returns-then-not-is_polled-clause-attended c rest a = hurried _ _ _ rest c.hurry.ensures (c.begin_round.ensures.attended rest a)
