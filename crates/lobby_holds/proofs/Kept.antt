-- What a worker's events leave of its pass.
use Rattle.std.proofs.Common.{◌≡◌, List, ap}
use Rattle.lobby_lock.specs.Passes.{ShownPass}
use Rattle.lobby_holds.specs.Moments.{Moment}
use Rattle.lobby_holds.specs.Went.{Joined}

pub kept : (old new : ShownPass) (turn : List Moment) → Joined old new turn → (new.desk ≡ old.desk) × (new.worker.number ≡ old.worker.number)
kept old new turn joined = (ap (λ p. p.desk) joined.pass, ap (λ p. p.worker.number) joined.pass)
