use Rattle.std.proofs.Common.{append_assoc}
use Rattle.std.proofs.lemmas.Result.{IfOk-equal}
use Rattle.reply_printer.proofs.opened.put_entry.Goals as goal

pub returns-clause-ok : goal.returns-clause-ok
returns-clause-ok c = IfOk-equal _ _ _ _ c.put_wide-2.ensures.ok (rw (c.in_ok-put_wide.ensures.ok, append_assoc, c.in_ok-put_flag.ensures.ok, append_assoc, c.in_ok-put_number.ensures.ok, append_assoc) (rw c.from.ensures))
