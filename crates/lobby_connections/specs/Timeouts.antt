-- How long a worker may wait.
use Rattle.std.specs.Prelude.{◌≡◌, ℕ, Bool, false, List, [], Option, Some, None}
use Rattle.lobby_connections.specs.declared.poll_timeout.PollTimeout.{PollTimeout}
use Rattle.lobby_connections.specs.declared.poll_timeout.PollTimeout.TheVariants.{Zero, Short, Endless}

-- the nanoseconds of a time-out, if it ends
abbrev pub nanoseconds : PollTimeout → Option ℕ
nanoseconds Zero = Some 0
nanoseconds Short = Some 10000000
nanoseconds Endless = None

-- the shorter of two
abbrev pub shorter : PollTimeout → PollTimeout → PollTimeout
shorter Zero other = Zero
shorter Short Zero = Zero
shorter Short Short = Short
shorter Short Endless = Short
shorter Endless other = other

-- who waits without end has left nobody over
abbrev pub StaysAwake : List ℕ → Bool → PollTimeout → Type 0
StaysAwake left is_each_left timeout = timeout ≡ Endless → (left ≡ []) × (is_each_left ≡ false)
