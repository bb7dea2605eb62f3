use Rattle.record_lines.specs.Masks.{masked}
use Rattle.record_lines.proofs.Entered.{prints_said}
use Rattle.record_lines.proofs.said.put_said.Goals as goal

pub returns-clause-ok : goal.returns-clause-ok
returns-clause-ok c =
    prints_said c.args.place c.args.client (masked c.args.masks.now.accounts c.args.masks.now.private c.args.request.now)
    c.deref.result.now c.args.out.now.items c.put_send.new.out.items c.put_take.new.out.items
    (rw c.deref.ensures.value c.in_ok-put_masked.ensures.text) c.in_ok-put_send.ensures.ok c.in_ok-put_take.ensures.ok
