-- How the keys of a file of settings are written.
use Rattle.std.specs.Prelude.{ℕ, List, codes}
use Rattle.lobby_setup.specs.declared.key.Key.{Key}
use Rattle.lobby_setup.specs.declared.key.Key.TheVariants.{Address, Workers, OutboxLimit, ProtocolVersion}
use Rattle.lobby_setup.specs.declared.key.Key.TheVariants.{SpringVersion, UdpPort, ServerMode, Motd, StopAtInputEnd}
use Rattle.lobby_setup.specs.declared.key.Key.TheVariants.{Proxies, Log, Record, Private}

abbrev pub name_of : Key → List ℕ
name_of Address = codes "address"
name_of Workers = codes "workers"
name_of OutboxLimit = codes "outbox_limit"
name_of ProtocolVersion = codes "protocol_version"
name_of SpringVersion = codes "spring_version"
name_of UdpPort = codes "udp_port"
name_of ServerMode = codes "server_mode"
name_of Motd = codes "motd"
name_of StopAtInputEnd = codes "stop_at_input_end"
name_of Proxies = codes "proxies"
name_of Log = codes "log"
name_of Record = codes "record"
name_of Private = codes "private"
