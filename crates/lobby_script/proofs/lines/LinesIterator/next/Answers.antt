use Rattle.std.proofs.Common.{ℕ, List, length, ap, arith}
use Rattle.lobby_script.proofs.LineSplits.{left_with_line, left_without_line}
use Rattle.lobby_script.proofs.lines.LinesIterator.next.Goals as goal

pub returns-in-Some-clause-steps : goal.returns-in-Some-clause-steps
returns-in-Some-clause-steps c = left_with_line c.args.self.now.rest c.in_ok-text.text c.in-Some.line.now c.in-Some.behind.now c.in_ok-text.was c.in-Some.ensures

pub returns-in-Some-clause-goes : goal.returns-in-Some-clause-goes
returns-in-Some-clause-goes c =
    let left = left_with_line c.args.self.now.rest c.in_ok-text.text c.in-Some.line.now c.in-Some.behind.now c.in_ok-text.was c.in-Some.ensures in
    let more = ap (λ (l : List (List ℕ)). length l) left in
    record { on = λ f. (tt, tt, omega (arith, more)); keeps = tt; rests = λ f. tt }

pub returns-in-None-clause-steps : goal.returns-in-None-clause-steps
returns-in-None-clause-steps c = left_without_line c.args.self.now.rest c.in_ok-text.text c.in_ok-text.was c.in-None.ensures

pub returns-in-None-clause-goes : goal.returns-in-None-clause-goes
returns-in-None-clause-goes c =
    let left = left_without_line c.args.self.now.rest c.in_ok-text.text c.in_ok-text.was c.in-None.ensures in
    let more = ap (λ (l : List (List ℕ)). length l) left in
    record { on = λ f. (tt, tt, omega (arith, more)); keeps = tt; rests = λ f. tt }
