use Rattle.lobby_lock.proofs.Moves.{opens, finds_empty}
use Rattle.lobby_lock.proofs.place.begin.Goals as goal

pub push_as-requires-clause-rule : goal.push_as-requires-clause-rule
push_as-requires-clause-rule g c =
    let a = c.requires.alone in
    (opens _ _ _ _ c.requires.first a.0 a.1 a.2 a.3, finds_empty _ _ a.0 a.1)
