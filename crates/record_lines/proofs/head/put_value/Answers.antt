use Rattle.std.proofs.Common.{ℕ, List, ap, ◌∙◌}
use Rattle.toml.specs.View.{view, members_view, table_view}
use Rattle.record_lines.specs.Head.{with_member}
use Rattle.record_lines.proofs.Tables.{inserted}
use Rattle.record_lines.proofs.head.put_value.Goals as goal

pub returns-in-Ok : goal.returns-in-Ok
returns-in-Ok c =
    ap members_view c.in-Ok.ensures.entries
    ∙ inserted c.in_ok-key.key c.args.value c.args.table.now.entries
    ∙ ap (λ (k : List ℕ). with_member k (view c.args.value) (table_view c.args.table.now)) c.in_ok-key.ensures.ok
