use Rattle.reply_grammar.specs.Lines.{read_arguments}
use Rattle.reply_grammar.proofs.Whole.{not_read}
use Rattle.reply_grammar.proofs.Behind.{reads_reply, reads_none}
use Rattle.reply_grammar.proofs.reading.read_reply.Goals as goal

pub returns-in-Ok-clause-some : goal.returns-in-Ok-clause-some
returns-in-Ok-clause-some c =
    reads_reply c.args.line.now c.in-Some.head.id (read_arguments c.in-Some.head.command c.in-Some.head.arguments.now) c.in-Ok.reply c.in-Some.ensures.some c.in-Ok.ensures

pub returns-in-Err-Unread-clause-none : goal.returns-in-Err-Unread-clause-none
returns-in-Err-Unread-clause-none c =
    reads_none c.args.line.now c.in-Some.head.id (read_arguments c.in-Some.head.command c.in-Some.head.arguments.now) c.in-Some.ensures.some (rw c.in-Err-Unread.field-0-is at c.in-Err-Unread.ensures)

pub returns-in-None-clause-none : goal.returns-in-None-clause-none
returns-in-None-clause-none c pair reads = not_read c.args.line.now pair c.in-None.ensures.none reads
