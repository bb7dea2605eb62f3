use Rattle.worker_loop.proofs.Kept.{hurried}
use Rattle.worker_loop.proofs.worker.WorkerLoop.take_in.Goals as goal

pub returns-then-not-readiness-clause-attended : goal.returns-then-not-readiness-clause-attended
returns-then-not-readiness-clause-attended g c rest a = hurried _ _ _ rest c.hurry.ensures a

pub returns-clause-attended : goal.returns-clause-attended
returns-clause-attended g c rest a =
    c.take_names.ensures.attended rest (c.look_into_inbox-pass.ensures.attended rest (hurried _ _ _ rest c.hurry.ensures a))
