use Rattle.worker_loop.proofs.Kept.{counted}
use Rattle.worker_loop.proofs.turns.end_turn.Goals as goal

pub returns : goal.returns
returns g c rest a =
    counted _ _ _ rest c.count_told-2.ensures (counted _ _ _ rest c.count_told.ensures (c.end_turn.ensures.attended rest a))
