use Rattle.std.proofs.Common.{ℕ, List, ap, ◌∙◌}
use Rattle.toml.specs.View.{table_view}
use Rattle.toml_fields.specs.Fields.{required, text}
use Rattle.lobby_setup.proofs.Endpoints.{no_endpoint}
use Rattle.lobby_setup.proofs.fields.listening_address.Goals as goal

pub returns-in-None : goal.returns-in-None
returns-in-None c =
    let says = c.in-Ok.ensures ∙ ap (λ (key : List ℕ). required text key (table_view c.args.table.now)) c.name.ensures in
    no_endpoint _ c.in-Ok.text.now c.as_bytes.result.now c.socket_address.result says c.as_bytes.ensures.value c.socket_address.ensures c.in-None.is
