-- What contracts see of a queue of bytes.
use Rattle.std.specs.Prelude.{ℕ, List}

-- The bytes that were appended and not yet consumed, and how many more can be appended before memory has to be asked
-- for
pub record Waiting : Type 0 where
  pub bytes : List ℕ
  pub room : ℕ
