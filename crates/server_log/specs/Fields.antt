-- What a line of the log says of each happening.
use Rattle.std.specs.Prelude.{ℕ, List, [], ◌∷◌, ◌++◌, codes, decimal, Option, Some, None}
use Rattle.std.specs.Prelude.{slice_index}
use Rattle.server_log.specs.Lines.{line}
use Rattle.server_log.specs.declared.happening.Denial.{Denial}
use Rattle.server_log.specs.declared.happening.Denial.TheVariants.{Invalid, InUse, Again}
use Rattle.server_log.specs.declared.happening.Cause.{Cause}
use Rattle.server_log.specs.declared.happening.Cause.TheVariants.{Exit, Closed, TooSlow, LineTooLong, Fault, Stop}
use Rattle.server_log.specs.declared.happening.Refusal.{Refusal}
use Rattle.server_log.specs.declared.happening.Refusal.TheVariants.{Full, Files, Memory, System, Busy, Front}
use Rattle.server_log.specs.declared.happening.RecordEnd.{RecordEnd}
use Rattle.server_log.specs.declared.happening.RecordEnd.TheVariants as end
use Rattle.server_log.specs.declared.happening.ReserveState.{ReserveState}
use Rattle.server_log.specs.declared.happening.ReserveState.TheVariants.{Gone, Whole}
use Rattle.server_log.specs.declared.happening.Started.{Started}
use Rattle.server_log.specs.declared.happening.Happening.{Happening}
use Rattle.server_log.specs.declared.happening.Happening.TheVariants as happening

abbrev pub denial_word : Denial → List ℕ
denial_word Invalid = codes "invalid"
denial_word InUse = codes "in_use"
denial_word Again = codes "again"

abbrev pub cause_word : Cause → List ℕ
cause_word Exit = codes "exit"
cause_word Closed = codes "closed"
cause_word TooSlow = codes "too_slow"
cause_word LineTooLong = codes "line_too_long"
cause_word Fault = codes "fault"
cause_word Stop = codes "stop"

abbrev pub refusal_word : Refusal → List ℕ
refusal_word Full = codes "full"
refusal_word Files = codes "files"
refusal_word Memory = codes "memory"
refusal_word System = codes "system"
refusal_word Busy = codes "busy"
refusal_word Front = codes "front"

abbrev pub record_end_word : RecordEnd → List ℕ
record_end_word end.Stop = codes "stop"
record_end_word end.Full = codes "full"
record_end_word end.Disk = codes "disk"
record_end_word end.Memory = codes "memory"
record_end_word end.LastPlace = codes "last_place"
record_end_word end.Number = codes "number"
record_end_word end.Line = codes "line"

abbrev pub reserve_word : ReserveState → List ℕ
reserve_word Gone = codes "gone"
reserve_word Whole = codes "whole"

-- the word with which a line begins
abbrev pub word_of : Happening → List ℕ
word_of (happening.Started started) = codes "started"
word_of (happening.RecordStarted folder) = codes "record_started"
word_of (happening.RecordEnded reason place) = codes "record_ended"
word_of (happening.Login client name ip) = codes "login"
word_of (happening.Denied client name reason ip) = codes "denied"
word_of (happening.DeniedMore client count ip) = codes "denied_more"
word_of (happening.Logout client name cause) = codes "logout"
word_of (happening.Refused reason ip) = codes "refused"
word_of (happening.MemoryRefused worker) = codes "memory_refused"
word_of (happening.Reserve state) = codes "reserve"
word_of (happening.Stopped worker events) = codes "stopped"
word_of (happening.Lost lines) = codes "log"

-- how many events are counted, or that it is more
abbrev pub count_word : Option ℕ → List ℕ
count_word (Some events) = decimal events
count_word None = codes "full"

-- the place of an event, or that there is none
abbrev pub place_word : Option ℕ → List ℕ
place_word (Some place) = decimal place
place_word None = codes "none"

-- an address: its four numbers, parted by dots
abbrev pub ip_text : List ℕ → List ℕ
ip_text ip = decimal (slice_index ip 0) ++ (46 ∷ decimal (slice_index ip 1)) ++ (46 ∷ decimal (slice_index ip 2))
    ++ (46 ∷ decimal (slice_index ip 3))

-- where it is not known, there is no field of it
abbrev pub ip_fields : Option (List ℕ) → List (List ℕ × List ℕ)
ip_fields (Some ip) = (codes "ip", ip_text ip) ∷ []
ip_fields None = []

-- keys and values, in their order
abbrev pub fields_of : Happening → List (List ℕ × List ℕ)
fields_of (happening.Started started) =
    (codes "version", started.version.now) ∷ (codes "address", started.address)
    ∷ (codes "workers", decimal started.workers) ∷ (codes "client_limit", decimal started.client_limit)
    ∷ (codes "outbox_limit", decimal started.outbox_limit) ∷ (codes "accounts", decimal started.accounts) ∷ []
fields_of (happening.RecordStarted folder) = (codes "folder", folder) ∷ []
fields_of (happening.RecordEnded reason place) = (codes "reason", record_end_word reason)
    ∷ (codes "place", place_word place) ∷ []
fields_of (happening.Login client name ip) =
    (codes "name", name) ∷ (codes "client", decimal client) ∷ (codes "ip", ip_text ip) ∷ []
fields_of (happening.Denied client name reason ip) =
    (codes "name", name) ∷ (codes "reason", denial_word reason) ∷ (codes "client", decimal client)
    ∷ (codes "ip", ip_text ip) ∷ []
fields_of (happening.DeniedMore client count ip) =
    (codes "count", decimal count) ∷ (codes "client", decimal client) ∷ (codes "ip", ip_text ip) ∷ []
fields_of (happening.Logout client name cause) =
    (codes "name", name) ∷ (codes "cause", cause_word cause) ∷ (codes "client", decimal client) ∷ []
fields_of (happening.Refused reason ip) = (codes "reason", refusal_word reason) ∷ ip_fields ip
fields_of (happening.MemoryRefused worker) = (codes "worker", decimal worker) ∷ []
fields_of (happening.Reserve state) = (codes "state", reserve_word state) ∷ []
fields_of (happening.Stopped worker events) = (codes "worker", decimal worker) ∷ (codes "events", count_word events)
    ∷ []
fields_of (happening.Lost lines) = (codes "lost", decimal lines) ∷ []

-- the line of a happening
abbrev pub line_of : Happening → List ℕ
line_of happening = line (word_of happening) (fields_of happening)
