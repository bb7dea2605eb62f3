use Rattle.std.proofs.lemmas.Grind.{common_steps}
use Rattle.std.proofs.Common.{arith}
use Rattle.outbox.proofs.Woven.{own_before-push, shared_bytes-push}
use Rattle.outbox.proofs.shares.Shares.push_back.Goals as goal
use Rattle.outbox.proofs.shares.Shares.push_back.Goals.{in-Some, in_default+in-Some-1, in_default+in-None-1}

pub invariant_of-self : goal.invariant_of-self
invariant_of-self c = elim c.match-self.branch [
  | in-Some w ↦ grind (arith, common_steps, own_before-push, shared_bytes-push)
  | in_default+in-Some-1 w ↦ grind (arith, common_steps)
  | in_default+in-None-1 w ↦ grind (arith, common_steps)
]
