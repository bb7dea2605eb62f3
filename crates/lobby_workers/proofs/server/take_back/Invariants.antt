use Rattle.std.proofs.Common.{◌≡◌}
use Rattle.std.specs.Prelude.{vec_len}
use Rattle.std.specs.List.{All}
use Rattle.lobby_workers.proofs.server.take_back.Given as goal

abbrev pub invariant-loop-thread : goal.invariant-loop-thread
invariant-loop-thread g l = (l.pass.desk ≡ l.desk) × (l.pass.worker.number ≡ 0) × All (λ thread. thread.promise.0.value.desk ≡ l.desk) l.threads.items

abbrev pub decreases-loop-thread : goal.decreases-loop-thread
decreases-loop-thread g l = vec_len l.threads
