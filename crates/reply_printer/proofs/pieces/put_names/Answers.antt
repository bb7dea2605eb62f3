use Rattle.std.proofs.Common.{◌≡◌, get_or, vec_capacity, subst, sym, arith}
use Rattle.reply_printer.proofs.Kept.{word_lacks, on_refusal}
use Rattle.reply_printer.proofs.pieces.put_names.Goals as goal

pub returns-in_err-put_behind-clause-wanted : goal.returns-in_err-put_behind-clause-wanted
returns-in_err-put_behind-clause-wanted c =
    let i = c.loop-name.name-index in
    on_refusal c.from_residual.result
    (word_lacks c.args.out.now.items c.loop-name.out.items c.args.names.now i c.as_slice.result.now (vec_capacity c.loop-name.out) (vec_capacity c.args.out.now)
    c.loop-name.invariant.text (omega (arith, c.loop-name-test.true))
    (subst (λ w. w ≡ get_or c.args.names.now i w) (sym c.as_slice.ensures.value) c.name-item.is)
    c.loop-name.invariant.room c.in_err-put_behind.ensures.wanted)
