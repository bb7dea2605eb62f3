use Rattle.std.proofs.Common.{arith}
use Rattle.proxy_line.proofs.Parts.{lacks_all, lacks_below, parts_round}
use Rattle.proxy_line.proofs.numbers.part_at.Goals as goal

pub returns-in_err-at : goal.returns-in_err-at
returns-in_err-at c = rw c.from_residual.ensures (lacks_all c.args.separator c.args.bytes.now c.in_err-at.ensures)

pub returns : goal.returns
returns c =
    let place = c.in_ok-at.ensures in record {
      whole = parts_round c.args.separator c.in_ok-at.at c.args.bytes.now place.0.high place.1;
      first = lacks_below c.args.separator c.in_ok-at.at c.args.bytes.now (omega (arith, place.0.high)) place.0.before;
    }
