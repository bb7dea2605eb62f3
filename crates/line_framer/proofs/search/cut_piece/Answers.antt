use Rattle.std.proofs.Common.{◌+◌, ◌-◌, ◌++◌, length, drop, arith, length-append, length-drop, length-take, inr}
use Rattle.line_framer.proofs.Cut.{settled, spoilt_here, stepped, none_behind, none_from}
use Rattle.line_framer.proofs.search.cut_piece.Goals as goal

pub loop-whole-preserved : goal.loop-whole-preserved
loop-whole-preserved c =
    record {
      within = omega (arith, c.in-Some.ensures.within);
      apart = inr (omega arith);
      behind = λ rest n none.
          stepped rest c.args.piece.now c.loop-whole.whole (c.max.result - c.args.before) (c.loop-whole.whole + c.args.limit + 1 - c.args.before - (c.max.result - c.args.before))
          none (omega arith) c.in-Some.end c.args.limit _ c.in-Some.ensures (c.loop-whole.invariant.behind rest n none)
          (omega (arith, c.in-Some.ensures.within, length-take (c.loop-whole.whole + c.args.limit + 1 - c.args.before - (c.max.result - c.args.before)) (drop (c.max.result - c.args.before) c.args.piece.now))) (omega arith);
    }

pub returns-in-None-clause-parts : goal.returns-in-None-clause-parts
returns-in-None-clause-parts c = λ rest n none.
    let t = rest ++ c.args.piece.now in
    spoilt_here t c.args.limit c.loop-whole.whole (c.loop-whole.invariant.behind rest n none) (omega (arith, length-drop c.loop-whole.whole t, length-append rest c.args.piece.now))
    (λ k le. none_from rest c.args.piece.now c.loop-whole.whole (c.max.result - c.args.before) (c.loop-whole.whole + c.args.limit + 1 - c.args.before - (c.max.result - c.args.before))
    none (omega arith) c.in-None.ensures k (omega (arith, length-append rest c.args.piece.now)) (omega arith))

pub returns-in-Some-last_end-clause-parts : goal.returns-in-Some-last_end-clause-parts
returns-in-Some-last_end-clause-parts c = λ rest n none.
    let t = rest ++ c.args.piece.now in
    let from = c.max-2.result - c.args.before in
    let size = length c.args.piece.now - from in
    let next = c.args.before + from + c.in-Some-last_end.end + 1 in
    settled t c.args.limit next
    (stepped rest c.args.piece.now c.loop-whole.whole from size none (omega arith) c.in-Some-last_end.end c.args.limit next c.in-Some-last_end.ensures
    (c.loop-whole.invariant.behind rest n none) (omega (arith, c.in-Some-last_end.ensures.within)) (omega arith))
    (none_behind rest c.args.piece.now c.loop-whole.whole from size none (omega arith) c.in-Some-last_end.end next c.in-Some-last_end.ensures (omega arith) (omega arith))
    (omega (arith, length-drop next t, length-append rest c.args.piece.now))

pub returns-in_default-clause-parts : goal.returns-in_default-clause-parts
returns-in_default-clause-parts c = λ rest n none.
    let t = rest ++ c.args.piece.now in
    let from = c.max-2.result - c.args.before in
    settled t c.args.limit c.loop-whole.whole (c.loop-whole.invariant.behind rest n none)
    (λ k lt. none_from rest c.args.piece.now c.loop-whole.whole from (length c.args.piece.now - from) none (omega arith) c.in_default.ensures k
    (omega (arith, length-drop c.loop-whole.whole t)) (omega (arith, length-drop c.loop-whole.whole t, length-append rest c.args.piece.now)))
    (omega (arith, length-drop c.loop-whole.whole t, length-append rest c.args.piece.now))
