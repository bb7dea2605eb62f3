use Rattle.std.proofs.Common.{append_assoc}
use Rattle.std.proofs.lemmas.List.{append-nil}
use Rattle.server_log.proofs.line.put_denied.Goals as goal

pub returns : goal.returns
returns c = rw (c.in_ok-put_ip.ensures, c.in_ok-put_outcome.ensures) (simp (append_assoc, append-nil))
