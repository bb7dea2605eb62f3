use Rattle.std.proofs.Common.{◌∙◌}
use Rattle.worker_loop.proofs.worker.WorkerLoop.look_into_inbox.Goals as goal

pub loop-preserved : goal.loop-preserved
loop-preserved g c = (
  c.receive-pass.ensures.desk ∙ c.loop.invariant.0,
  c.receive-pass.ensures.number ∙ c.loop.invariant.1,
  (λ rest a. c.receive-pass.ensures.attended rest (c.loop.invariant.2 rest a)),
  c.receive-pass.ensures.lookout ∙ c.loop.invariant.3,
)
