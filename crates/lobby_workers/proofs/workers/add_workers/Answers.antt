use Rattle.std.proofs.Common.{◌≡◌}
use Rattle.lobby_workers.proofs.Pushed.{all_pushed}
use Rattle.lobby_workers.proofs.workers.add_workers.Goals as goal

pub loop-preserved : goal.loop-preserved
loop-preserved g c =
    let mine = c.in_ok-mine.ensures.mine in
    (mine.0, mine.1, all_pushed (λ worker. worker.pass.desk ≡ c.args.desk.now) _ _ _ c.in-Ok.ensures.items c.loop.invariant.2 c.in_ok-mine.ensures.worker)
