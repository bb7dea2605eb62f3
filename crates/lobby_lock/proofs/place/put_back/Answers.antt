use Rattle.lobby_lock.proofs.Moves.{gives, finds_empty}
use Rattle.lobby_lock.proofs.place.put_back.Goals as goal

pub push_as-requires-clause-rule : goal.push_as-requires-clause-rule
push_as-requires-clause-rule g c =
    let h = c.requires.holds in
    (gives _ _ _ _ _ h.0 h.1 (rw c.requires.named c.requires.stands.0) (rw c.requires.named c.requires.stands.1), finds_empty _ _ h.0 h.1)
