-- What contracts see of a turn that a connection had.
use Rattle.std.specs.Prelude.{ℕ}
use Rattle.lobby_holds.specs.declared.turn.TurnState.{TurnState}

-- the key of its connection, how the connection stands, the workers to be woken, and how much it told
pub record Had : Type 0 where
  pub key : ℕ
  pub state : TurnState
  pub wakes : ℕ
  pub told : ℕ
