use Rattle.std.proofs.Common.{◌≤◌, length, arith}
use Rattle.toml.specs.View.{items_view}
use Rattle.lobby_setup.specs.Motd.{lines_of}
use Rattle.lobby_setup.proofs.Bounds.{configuration_allowed}
use Rattle.lobby_setup.proofs.Lines.{allowed}
use Rattle.lobby_setup.proofs.fields.fields_of.Goals as goal

pub returns-clause-settings : goal.returns-clause-settings
returns-clause-settings c =
    let lines = allowed 1 (items_view c.in_ok-motd_field.field-0.now) (omega arith) c.in_ok-motd_field.ensures.lines in
    let few : length (lines_of (items_view c.in_ok-motd_field.field-0.now)) ≤ 100 = omega (arith, lines.0) in
    configuration_allowed c.in_ok-version_field.field-0.now c.in_ok-version_field-2.field-0.now _ _ _ _
    c.in_ok-version_field.ensures.version c.in_ok-version_field-2.ensures.version
    c.in_ok-port_field.ensures.within c.in_ok-mode_field.ensures.within few lines.1
    c.in_ok-outbox_field.ensures.within.0 c.in_ok-outbox_field.ensures.within.1
