use Rattle.std.proofs.Common.{◌≡◌, ◌≤◌, length, take, arith, sym}
use Rattle.std.proofs.lemmas.List.{length-take, take_all}
use Rattle.server_log.proofs.text.front.Goals as goal

pub slice_bounds-result-end : goal.slice_bounds-result-end
slice_bounds-result-end c = omega (arith, length-take 64 c.args.bytes.now)

pub returns-then-bytes-gt-KEPT-clause-short : goal.returns-then-bytes-gt-KEPT-clause-short
returns-then-bytes-gt-KEPT-clause-short c = omega (arith, length-take 64 c.args.bytes.now)

pub returns-else-bytes-gt-KEPT-clause-front : goal.returns-else-bytes-gt-KEPT-clause-front
returns-else-bytes-gt-KEPT-clause-front c = sym (take_all 64 c.args.bytes.now (omega arith))
