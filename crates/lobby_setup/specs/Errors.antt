-- The error of a file that was not read.
use Rattle.toml_fields.specs.declared.document.DocumentError.{DocumentError}
use Rattle.toml_fields.specs.declared.document.DocumentError.TheVariants as unread
use Rattle.lobby_setup.specs.declared.error.Refusal.TheVariants.{NotToml}
use Rattle.lobby_setup.specs.declared.error.SetupFault.{SetupFault}
use Rattle.lobby_setup.specs.declared.error.SetupFault.TheVariants.{Unusable, Memory}

abbrev pub error_of : DocumentError → SetupFault
error_of (unread.NotToml line) = Unusable (NotToml line)
error_of unread.Memory = Memory
