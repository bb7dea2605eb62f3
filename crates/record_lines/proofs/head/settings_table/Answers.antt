use Rattle.std.proofs.Common.{arith, ap, ◌∙◌}
use Rattle.toml.specs.View.{members_view, view}
use Rattle.record_lines.proofs.Built.{settings_built}
use Rattle.record_lines.proofs.head.settings_table.Goals as goal

pub returns : goal.returns
returns c =
    settings_built c.args.settings.now c.outbox_limit-limit.result c.from-2.result c.from.result
    c.as_slice-protocol.result.now c.as_slice-spring.result.now c.as_slice.result.now (view c.in_ok-motd.motd)
    _ _ _ _ _ _ _ _ c.outbox_limit-limit.ensures (c.as_slice-protocol.ensures.value ∙ c.protocol_version.ensures)
    (c.as_slice-spring.ensures.value ∙ c.spring_version.ensures) (omega arith) (omega arith)
    (c.as_slice.ensures ∙ c.motd.ensures) (ap members_view c.new-table.ensures.empty) c.in_ok-motd.ensures
    c.in_ok-put_text.ensures c.in_ok-put_value.ensures c.in_ok-put_number.ensures c.in_ok-put_text-2.ensures
    c.in_ok-put_number-2.ensures c.in_ok-put_text-3.ensures c.in_ok-put_number-3.ensures
