use Rattle.std.proofs.Common.{ap, ◌∙◌}
use Rattle.lobby_lock.proofs.Moves.{forks}
use Rattle.lobby_lock.proofs.desk.Desk.hand_out.Goals as goal

pub another-other-requires-clause-rule : goal.another-other-requires-clause-rule
another-other-requires-clause-rule c =
    forks _ _ c.pass.invariant.alive (ap (λ p. p.worker.number) c.pass.view_is ∙ c.requires.first) c.pass.invariant.holds
