-- The exit statuses of a server.
use Rattle.std.specs.Prelude.{◌≡◌, ◌⊎◌, ℕ}
use Rattle.lobby_workers.specs.declared.error.ServerError.{ServerError}
use Rattle.lobby_workers.specs.declared.error.ServerError.TheVariants.{Input, Listener, Memory}

abbrev pub status_of : ServerError → ℕ
status_of Input = 2
status_of Listener = 3
status_of Memory = 4

-- the server was stopped by the end of its input, or by its failure; or it could not start, for want of what the system
-- gives or of memory
abbrev pub IsEnd : ℕ → Type 0
IsEnd status = (status ≡ 0) ⊎ ((status ≡ 2) ⊎ ((status ≡ 3) ⊎ (status ≡ 4)))
