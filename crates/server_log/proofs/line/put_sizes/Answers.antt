use Rattle.std.proofs.Common.{◌≡◌, ◌++◌, append_assoc}
use Rattle.std.proofs.lemmas.List.{append-nil}
use Rattle.server_log.proofs.line.put_sizes.Goals as goal

pub returns : goal.returns
returns c =
    let four = c.in_ok-put_number-4.ensures in
    let three = c.in_ok-put_number-3.ensures in
    let two = c.in_ok-put_number-2.ensures in
    let one = c.in_ok-put_number.ensures in
    rw (four, three, two, one, c.from.ensures) (simp (append_assoc, append-nil))
