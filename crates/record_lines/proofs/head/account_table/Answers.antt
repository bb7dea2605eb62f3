use Rattle.std.proofs.Common.{arith, ap}
use Rattle.toml.specs.View.{members_view}
use Rattle.toml.proofs.Views.{view-Boolean}
use Rattle.record_lines.proofs.Built.{account_built}
use Rattle.record_lines.proofs.head.account_table.Goals as goal

pub returns : goal.returns
returns c =
    account_built c.args.account.now c.access.result c.bot.result c.as_slice.result.now c.name.result.now c.id.result
    c.from.result _ _ _ _ _ _ _ _ _ _ c.access.ensures c.bot.ensures (cc) c.id.ensures c.name.ensures.value (omega arith)
    (ap members_view c.new-table.ensures.empty) (view-Boolean c.access.result) (view-Boolean c.bot.result)
    c.in_ok-put_value.ensures c.in_ok-put_value-2.ensures c.in_ok-put_text.ensures c.in_ok-put_number.ensures
    c.in_ok-put_text-2.ensures c.in_ok-put_text-3.ensures c.in_ok-put_number-2.ensures
