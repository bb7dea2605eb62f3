use Rattle.std.proofs.Common.{append_assoc}
use Rattle.record_lines.proofs.lines.put_address.Goals as goal

pub returns-clause-ok : goal.returns-clause-ok
returns-clause-ok c = rw (c.in_ok-put_octet-4.ensures.ok, c.in_ok-put_octet-3.ensures.ok, c.in_ok-put_octet-2.ensures.ok, c.in_ok-put_octet.ensures.ok) (simp append_assoc)
