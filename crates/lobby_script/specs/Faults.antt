-- Which fault is told.
use Rattle.std.specs.Prelude.{ℕ}
use Rattle.account_book.specs.declared.error.AccountsError.{AccountsError}
use Rattle.account_book.specs.declared.error.AccountsError.TheVariants as accounts
use Rattle.lobby_model.specs.declared.settings.SettingsError.{SettingsError}
use Rattle.lobby_model.specs.declared.settings.SettingsError.TheVariants as settings
use Rattle.lobby_script.specs.declared.fault.LineFault.{LineFault}
use Rattle.lobby_script.specs.declared.fault.LineFault.TheVariants as line
use Rattle.lobby_script.specs.declared.fault.PlayFault.{PlayFault}
use Rattle.lobby_script.specs.declared.fault.PlayFault.TheVariants as script

abbrev pub fault_at : LineFault → ℕ → PlayFault
fault_at line.BadStep k = script.BadStep k
fault_at line.Device k = script.Device
fault_at line.Memory k = script.Memory

abbrev pub refused_settings : SettingsError → LineFault
refused_settings settings.OutOfBounds = line.BadStep
refused_settings settings.Memory = line.Memory

abbrev pub refused_account : AccountsError → LineFault
refused_account accounts.NotToml = line.BadStep
refused_account (accounts.BadField place) = line.BadStep
refused_account accounts.DuplicateName = line.BadStep
refused_account accounts.Memory = line.Memory

-- the exit status of a script that was not played to its end
abbrev pub status_of : PlayFault → ℕ
status_of (script.BadStep k) = 1
status_of script.Device = 2
status_of script.TooLong = 2
status_of script.Memory = 4
