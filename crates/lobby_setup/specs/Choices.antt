-- What a table of settings says.
use Rattle.std.specs.Prelude.{◌≡◌, ℕ, Bool, true, false, List, [], codes, Result, Ok, Err, if◌then◌else◌}
use Rattle.std.specs.Option.{option_map_or}
use Rattle.toml.specs.Data.{Data, Items, no_items, Members}
use Rattle.toml_fields.specs.Fields.{◌>>=◌, flag, list, number, required, text}
use Rattle.toml_fields.specs.declared.fault.FieldFault.{FieldFault}
use Rattle.toml_fields.specs.declared.fault.FieldFault.TheVariants.{NotAllowed}
use Rattle.proxy_line.specs.Words.{IsSocketAddress}
use Rattle.lobby_model.specs.Configuration.{Configuration, configuration, is_version}
use Rattle.lobby_model.specs.Configuration.{least_outbox_limit, greatest_outbox_limit}
use Rattle.lobby_setup.specs.At.{at, field}
use Rattle.lobby_setup.specs.Keys.{name_of}
use Rattle.lobby_setup.specs.Levels.{level}
use Rattle.lobby_setup.specs.Motd.{lines_of, motd_fault}
use Rattle.lobby_setup.specs.Proxies.{Addresses, SayProxies}
use Rattle.lobby_setup.specs.Written.{IsWritten}
use Rattle.lobby_setup.specs.declared.key.Key.TheVariants.{Address, Workers, OutboxLimit, ProtocolVersion}
use Rattle.lobby_setup.specs.declared.key.Key.TheVariants.{SpringVersion, UdpPort, ServerMode, Motd, StopAtInputEnd}
use Rattle.lobby_setup.specs.declared.key.Key.TheVariants.{Log, Record, Private}
use Rattle.lobby_setup.specs.declared.error.Refusal.{Refusal}
use Rattle.server_log.specs.declared.level.LogLevel.{LogLevel}
use Rattle.server_log.specs.declared.level.LogLevel.TheVariants.{Important}

-- The settings of the lobby, the address and the port at which the server listens, how many workers it has, whether it
-- stops where its input ends, the addresses from which a front connects, how much operators are told, the folder of its
-- record, which is empty for none, and whether that has what users say in private
pub record Choices : Type 0 where
  pub settings : Configuration
  pub ip : List ℕ
  pub port : ℕ
  pub workers : ℕ
  pub stop_at_input_end : Bool
  pub proxies : List (List ℕ)
  pub log : LogLevel
  pub folder : List ℕ
  pub private : Bool

abbrev pub chosen : Configuration → List ℕ × ℕ → ℕ → Bool → List (List ℕ) → LogLevel → List ℕ → Bool → Choices
chosen settings endpoint workers stop_at_input_end proxies log folder private = record {
  settings = settings;
  ip = endpoint.0;
  port = endpoint.1;
  workers = workers;
  stop_at_input_end = stop_at_input_end;
  proxies = proxies;
  log = log;
  folder = folder;
  private = private;
}

-- a text that is a version word
abbrev pub version : Data → Result (List ℕ) FieldFault
version value = text value >>= (λ word. if is_version word then Ok word else Err NotAllowed)

-- the list of the lines of the message of the day, which can all be lines
abbrev pub motd_items : Members → Result Items Refusal
motd_items table = field Motd list no_items table >>= (λ values. option_map_or Err (motd_fault 1 values) (Ok values))

-- What is said at each key, or the first key in this order that is refused. What is said at the first key, `address`,
-- and at `proxies` is given
abbrev pub choices : Result (List ℕ × ℕ) FieldFault → Addresses → Members → Result Choices Refusal
choices endpoint proxies table =
    at Address endpoint >>= (λ endpoint.
    field Workers (number 1 64) 4 table >>= (λ workers.
    field OutboxLimit (number least_outbox_limit greatest_outbox_limit) 4194304 table >>= (λ outbox_limit.
    field ProtocolVersion version (codes "0.38") table >>= (λ protocol_version.
    field SpringVersion version (codes "*") table >>= (λ spring_version.
    field UdpPort (number 0 65535) 8201 table >>= (λ udp_port.
    field ServerMode (number 0 1) 0 table >>= (λ server_mode.
    motd_items table >>= (λ motd.
    field StopAtInputEnd flag false table >>= (λ stop_at_input_end.
    proxies >>= (λ proxies.
    field Log level Important table >>= (λ log.
    field Record text [] table >>= (λ folder.
    field Private flag true table >>= (λ private.
    Ok (chosen (configuration protocol_version spring_version udp_port server_mode (lines_of motd) outbox_limit)
    endpoint workers stop_at_input_end proxies log folder private))))))))))))))

-- What a table says: what its keys say, with what the text at `address` says as an address and a port
abbrev pub Says : Members → Result Choices Refusal → Type 0
Says table answer =
    (endpoint : Result (List ℕ × ℕ) FieldFault)
    × IsWritten IsSocketAddress (required text (name_of Address) table) endpoint
    × ((proxies : Addresses) × SayProxies table proxies × (answer ≡ choices endpoint proxies table))
