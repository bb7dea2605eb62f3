-- What a contract sees of a session: its client, and what it keeps of the client's bytes.
use Rattle.std.specs.Prelude.{ℕ}
use Rattle.line_framer.specs.Framed.{Framed}

pub record Serving : Type 0 where
  pub client : ℕ
  pub framed : Framed
