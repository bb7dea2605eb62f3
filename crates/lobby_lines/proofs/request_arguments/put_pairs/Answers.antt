use Rattle.std.proofs.Common.{sym, ◌∙◌}
use Rattle.lobby_lines.proofs.RequestGoing.{pairs_part}
use Rattle.lobby_lines.proofs.request_arguments.put_pairs.Goals as goal

pub returns-clause-put : goal.returns-clause-put
returns-clause-put c =
    pairs_part c.args.text.now c.args.fields.now c.args.line.now.items c.add_pairs.new.line.items (sym c.is_empty.ensures ∙ c.if-is_empty.false)
    c.in_ok-add_pairs.ensures.put
