use Rattle.std.proofs.Common.{◌≡◌, ◌+◌, ◌≤◌}
use Rattle.std.specs.Prelude.{vec_len, vec_capacity}
use Rattle.std.specs.List.{All}
use Rattle.lobby_workers.proofs.server.start_all.Given as goal

abbrev pub invariant-loop-worker : goal.invariant-loop-worker
invariant-loop-worker g l =
    (l.pass.desk ≡ l.shared.desk.now) × (l.pass.worker.number ≡ 0)
    × All (λ worker. worker.pass.desk ≡ l.shared.desk.now) l.workers.items
    × All (λ thread. thread.promise.0.value.desk ≡ l.shared.desk.now) l.threads.items
    × (vec_len l.workers + vec_len l.threads ≤ vec_capacity l.threads)

abbrev pub decreases-loop-worker : goal.decreases-loop-worker
decreases-loop-worker g l = vec_len l.workers
