use Rattle.std.proofs.Common.{vec_capacity, arith}
use Rattle.reply_printer.proofs.Kept.{pair_lacks, on_refusal}
use Rattle.reply_printer.proofs.pieces.put_pairs.Goals as goal

pub returns-in_err-put_pair-clause-wanted : goal.returns-in_err-put_pair-clause-wanted
returns-in_err-put_pair-clause-wanted c =
    on_refusal c.from_residual.result
    (pair_lacks c.args.out.now.items c.loop-pair.out.items c.loop-pair.separator c.args.pairs.now c.loop-pair.pair-index c.pair-item.result
    (vec_capacity c.loop-pair.out) (vec_capacity c.args.out.now) c.loop-pair.invariant.text (omega (arith, c.loop-pair-test.true)) c.pair-item.is
    c.loop-pair.invariant.room c.in_err-put_pair.ensures.wanted)
