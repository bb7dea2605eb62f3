-- What an outbox sees of its shared pieces.
use Rattle.std.specs.Prelude.{ℕ, List, [], Option, Some, None}
use Rattle.outbox.specs.declared.shares.Share.{Share}

-- The pieces that wait, in their order, and for how many more there are places
pub record Pending : Type 0 where
  pub items : List Share
  pub places : ℕ

-- what an outbox sees of pieces that lie apart, where there are any
abbrev pub pending : {A : Type 0} → (A → Pending) → Option A → Pending
pending seen None = record { items = []; places = 0 }
pending seen (Some held) = seen held
