-- Lists with a value for each client, in the order of their numbers: 1, 2, 3 and so on.
use Rattle.std.specs.Prelude.{ℕ, zero, suc, List, Option, None, slice_get}

-- the value of client c
abbrev pub of_client : {X : Type 0} → List X → ℕ → Option X
of_client xs zero = None
of_client xs (suc c) = slice_get xs c
