use Rattle.std.proofs.Common.{◌≡◌, get_or, vec_capacity, subst, sym, arith}
use Rattle.reply_printer.proofs.Kept.{word_lacks, on_refusal}
use Rattle.reply_printer.proofs.pieces.put_words.Goals as goal

pub returns-in_err-put_behind-clause-wanted : goal.returns-in_err-put_behind-clause-wanted
returns-in_err-put_behind-clause-wanted c =
    let i = c.loop-word.word-index in
    on_refusal c.from_residual.result
    (word_lacks c.args.out.now.items c.loop-word.out.items c.args.words.now i c.as_slice.result.now (vec_capacity c.loop-word.out) (vec_capacity c.args.out.now)
    c.loop-word.invariant.text (omega (arith, c.loop-word-test.true))
    (subst (λ w. w ≡ get_or c.args.words.now i w) (sym c.as_slice.ensures.value) c.word-item.is)
    c.loop-word.invariant.room c.in_err-put_behind.ensures.wanted)
