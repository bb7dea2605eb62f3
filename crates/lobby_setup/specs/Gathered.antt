-- What the code gathers of a table, as what it says.
use Rattle.std.specs.Prelude.{Result, Ok, Err}
use Rattle.toml.specs.View.{items_view}
use Rattle.proxy_line.specs.Sets.{listed}
use Rattle.lobby_model.specs.Configuration.{configuration}
use Rattle.lobby_setup.specs.Choices.{Choices, chosen}
use Rattle.lobby_setup.specs.Motd.{lines_of}
use Rattle.lobby_setup.specs.declared.error.Refusal.{Refusal}
use Rattle.lobby_setup.specs.declared.fields.Fields.{Fields}

abbrev pub gathered : Fields → Choices
gathered f =
    chosen (configuration f.protocol_version.now f.spring_version.now f.udp_port f.server_mode
    (lines_of (items_view f.motd.now)) f.outbox_limit) (f.ip, f.port) f.workers f.stop_at_input_end (listed f.proxies)
    f.log f.folder.now f.private

abbrev pub gathered_of : Result Fields Refusal → Result Choices Refusal
gathered_of (Ok fields) = Ok (gathered fields)
gathered_of (Err refusal) = Err refusal
