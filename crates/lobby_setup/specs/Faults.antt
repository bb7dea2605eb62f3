-- All that is wrong in a table of settings, key by key.
use Rattle.std.specs.Prelude.{◌≡◌, ℕ, ◌+◌, true, false, codes, List, [], ◌∷◌, ◌++◌, Option, Some, None}
use Rattle.std.specs.Prelude.{option_map, Result, Ok, Err, MatchResult}
use Rattle.std.specs.Option.{option_to_list}
use Rattle.std.specs.Result.{result_err}
use Rattle.toml.specs.Data.{Items, no_items, item, Members}
use Rattle.toml_fields.specs.Fields.{flag, list, number, required, text}
use Rattle.toml_fields.specs.declared.fault.FieldFault.{FieldFault}
use Rattle.proxy_line.specs.Words.{IsSocketAddress}
use Rattle.lobby_model.specs.Configuration.{least_outbox_limit, greatest_outbox_limit}
use Rattle.server_log.specs.declared.level.LogLevel.TheVariants.{Important}
use Rattle.lobby_setup.specs.At.{at, field}
use Rattle.lobby_setup.specs.Choices.{version}
use Rattle.lobby_setup.specs.Keys.{name_of}
use Rattle.lobby_setup.specs.Levels.{level}
use Rattle.lobby_setup.specs.Motd.{line_fault}
use Rattle.lobby_setup.specs.Proxies.{IsProxy}
use Rattle.lobby_setup.specs.Written.{IsWritten}
use Rattle.lobby_setup.specs.declared.key.Key.TheVariants as key
use Rattle.lobby_setup.specs.declared.error.Refusal.{Refusal}
use Rattle.lobby_setup.specs.declared.error.Refusal.TheVariants.{MotdLine, Proxy}

-- why something is refused, if it is
abbrev pub refused : {X E : Type 0} → Result X E → List E
refused said = option_to_list (result_err said)

-- the first fault of some
abbrev pub first_of : List Refusal → Option Refusal
first_of [] = None
first_of (fault ∷ faults) = Some fault

-- Each value, of which the first has this place, that cannot be a line of the message of the day
abbrev pub line_faults : ℕ → Items → List Refusal
line_faults place no_items = []
line_faults place (item value values) =
    option_to_list (option_map (MotdLine place) (line_fault place value)) ++ line_faults (place + 1) values

-- What is wrong at `motd`: that it is no list, or each of its values that cannot be a line
abbrev pub faults_in : (Items → List Refusal) → Result Items Refusal → List Refusal
faults_in of_values (Ok values) = of_values values
faults_in of_values (Err refusal) = refusal ∷ []

abbrev pub motd_faults : Members → List Refusal
motd_faults table = faults_in (line_faults 1) (field key.Motd list no_items table)

-- Each value, of which the first has this place, that writes no address of a front
abbrev pub AreProxyFaults : ℕ → Items → List Refusal → Type 0
AreProxyFaults place no_items faults = faults ≡ []
AreProxyFaults place (item value values) faults =
    (first : Result (List ℕ) FieldFault) × IsWritten (IsProxy place) (text value) first
    × ((rest : List Refusal) × AreProxyFaults (place + 1) values rest
    × (faults ≡ option_to_list (option_map (Proxy place) (result_err first)) ++ rest))

-- What is wrong at `proxies`: that it is no list, or each of its values that writes no address
abbrev pub HasProxyFaults : Members → List Refusal → Type 0
HasProxyFaults table faults =
    MatchResult (field key.Proxies list no_items table) (λ values. AreProxyFaults 1 values faults) (λ refusal.
    faults ≡ refusal ∷ [])

-- What is wrong at each key up to `server_mode`
abbrev pub greeting_faults : Result (List ℕ × ℕ) FieldFault → Members → List Refusal
greeting_faults endpoint table =
    refused (at key.Address endpoint)
    ++ refused (field key.Workers (number 1 64) 4 table)
    ++ refused (field key.OutboxLimit (number least_outbox_limit greatest_outbox_limit) 4194304 table)
    ++ refused (field key.ProtocolVersion version (codes "0.38") table)
    ++ refused (field key.SpringVersion version (codes "*") table)
    ++ refused (field key.UdpPort (number 0 65535) 8201 table)
    ++ refused (field key.ServerMode (number 0 1) 0 table)

-- What is wrong at each key
abbrev pub table_faults : Result (List ℕ × ℕ) FieldFault → List Refusal → Members → List Refusal
table_faults endpoint proxies table =
    greeting_faults endpoint table
    ++ motd_faults table
    ++ refused (field key.StopAtInputEnd flag false table)
    ++ proxies
    ++ refused (field key.Log level Important table)
    ++ refused (field key.Record text [] table)
    ++ refused (field key.Private flag true table)

-- All that is wrong in a table, in the order of its keys
abbrev pub AreFaults : Members → List Refusal → Type 0
AreFaults table faults =
    (endpoint : Result (List ℕ × ℕ) FieldFault)
    × IsWritten IsSocketAddress (required text (name_of key.Address) table) endpoint
    × ((proxies : List Refusal) × HasProxyFaults table proxies × (faults ≡ table_faults endpoint proxies table))
