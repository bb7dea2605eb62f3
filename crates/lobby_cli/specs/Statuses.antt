-- The exit statuses of the program.
use Rattle.std.specs.Prelude.{ℕ}
use Rattle.lobby_workers.specs.Statuses as server
use Rattle.lobby_cli.specs.declared.error.ProgramError.{ProgramError}
use Rattle.lobby_cli.specs.declared.error.ProgramError.TheVariants.{Settings, Accounts, Record, Terminal, Random}
use Rattle.lobby_cli.specs.declared.error.ProgramError.TheVariants.{Server}

abbrev pub status_of : ProgramError → ℕ
status_of Settings = 2
status_of Accounts = 2
status_of Record = 2
status_of Terminal = 2
status_of Random = 3
status_of (Server error) = server.status_of error
