use Rattle.std.proofs.Common.{append_assoc}
use Rattle.std.proofs.lemmas.Result.{IfOk-equal}
use Rattle.reply_printer.proofs.opened.put_titles.Goals as goal

pub returns-clause-ok : goal.returns-clause-ok
returns-clause-ok c = IfOk-equal _ _ _ _ c.put_next_sentence-4.ensures.ok (rw (c.in_ok-put_next_sentence-3.ensures.ok, append_assoc, c.in_ok-put_next_sentence-2.ensures.ok, append_assoc, c.in_ok-put_next_sentence.ensures.ok, append_assoc, c.in_ok-put_sentence.ensures.ok, append_assoc))
