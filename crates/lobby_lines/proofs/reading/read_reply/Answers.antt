use Rattle.std.proofs.Common.{◌∙◌, ap, subst, map, []}
use Rattle.lobby_lines.specs.Replies.{kind_of, numbered}
use Rattle.lobby_lines.specs.Reading.{seen_from, TookAll}
use Rattle.reply_grammar.proofs.Whole.{not_read}
use Rattle.lobby_lines.proofs.Telling.{told, untold, read}
use Rattle.lobby_lines.proofs.reading.read_reply.Goals as goal

pub returns-in_default-clause-none : goal.returns-in_default-clause-none
returns-in_default-clause-none c pair reads = not_read c.args.line.now pair c.in_default.ensures.none reads

pub returns-in-Ok-clause-some : goal.returns-in-Ok-clause-some
returns-in-Ok-clause-some c =
    let head = c.in-Some.head in
    read c.args.line.now head.id head.command c.put_arguments.new.fields c.head_row.result c.finish.result.rows.items c.finish.result.text.items
    (told c.args.line.now head.arguments.now head.id head.command _ c.put_arguments.new.fields c.in-Some.ensures.some c.kinds_of.ensures
    (subst (λ l. TookAll (seen_from [] (map kind_of c.kinds_of.result.now) head.arguments.now) l c.put_arguments.new.fields) c.new-fields.ensures c.in-Ok.ensures.read))
    (ap numbered c.head_row.ensures.kind ∙ c.number_of.ensures) c.head_row.ensures.id c.finish.ensures

pub returns-clause-none : goal.returns-clause-none
returns-clause-none c =
    let head = c.in-Some.head in
    untold c.args.line.now head.arguments.now head.id head.command _ c.in-Some.ensures.some c.kinds_of.ensures
    (rw c.in-Err-Unread.field-0-is at c.in-Err-Unread.ensures.unread)
