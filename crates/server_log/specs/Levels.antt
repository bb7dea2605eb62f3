-- How much operators are told.
use Rattle.std.specs.Prelude.{Bool, true, false}
use Rattle.server_log.specs.declared.happening.Cause.{Cause}
use Rattle.server_log.specs.declared.happening.Cause.TheVariants.{Exit, Closed, TooSlow, LineTooLong, Fault, Stop}
use Rattle.server_log.specs.declared.happening.Happening.{Happening}
use Rattle.server_log.specs.declared.happening.Happening.TheVariants as happening
use Rattle.server_log.specs.declared.level.LogLevel.{LogLevel}
use Rattle.server_log.specs.declared.level.LogLevel.TheVariants as level

-- a log out that the client did not ask for, nor its end or that of the server brought
abbrev pub is_forced : Cause → Bool
is_forced Exit = false
is_forced Closed = false
is_forced TooSlow = true
is_forced LineTooLong = true
is_forced Fault = true
is_forced Stop = false

-- all but logins and the log outs that clients bring about in good order
abbrev pub is_important : Happening → Bool
is_important (happening.Started started) = true
is_important (happening.RecordStarted folder) = true
is_important (happening.RecordEnded reason place) = true
is_important (happening.Login client name ip) = false
is_important (happening.Denied client name reason ip) = true
is_important (happening.DeniedMore client count ip) = true
is_important (happening.Logout client name cause) = is_forced cause
is_important (happening.Refused reason ip) = true
is_important (happening.MemoryRefused worker) = true
is_important (happening.Reserve state) = true
is_important (happening.Stopped worker events) = true
is_important (happening.Lost lines) = true

abbrev pub tells : LogLevel → Happening → Bool
tells level.None happening = false
tells level.Important happening = is_important happening
tells level.All happening = true
