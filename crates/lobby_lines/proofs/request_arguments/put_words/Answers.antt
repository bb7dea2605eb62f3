use Rattle.std.proofs.Common.{sym, ◌∙◌}
use Rattle.lobby_lines.proofs.RequestGoing.{words_part}
use Rattle.lobby_lines.proofs.request_arguments.put_words.Goals as goal

pub returns-clause-put : goal.returns-clause-put
returns-clause-put c =
    words_part c.args.text.now c.args.fields.now c.args.line.now.items c.add_words.new.line.items (sym c.is_empty.ensures ∙ c.if-is_empty.false)
    c.in_ok-add_words.ensures.put
