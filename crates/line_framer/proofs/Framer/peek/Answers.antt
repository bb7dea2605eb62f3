use Rattle.std.proofs.Common.{◌≡◌, ◌≤◌, take, length, None, Some, sym, ap, subst, ◌∙◌, arith}
use Rattle.line_framer.specs.Frames.{without_cr}
use Rattle.line_framer.specs.Framed.{next_line, waiting}
use Rattle.line_framer.proofs.Buffer.{lines_of_none, first_of_none, first_is, line_is_short}
use Rattle.line_framer.proofs.Stands.{next_frame}
use Rattle.line_framer.proofs.Framer.peek.Goals as goal

lent : (c : goal.After-without_cr) → Some c.without_cr.result.now ≡ next_line c.args.self.now
lent c =
    ap Some (c.without_cr.ensures ∙ ap (λ xs. without_cr (take c.in-Some.end xs)) c.as_slice.ensures)
    ∙ sym (first_is c.in-Some.is c.self.invariant) ∙ ap next_line c.self.view_is

pub returns-in-Some-clause-value : goal.returns-in-Some-clause-value
returns-in-Some-clause-value c = lent c

pub returns-in-Some-clause-stands : goal.returns-in-Some-clause-stands
returns-in-Some-clause-stands c = λ bytes dropped s. lent c ∙ next_frame c.args.self.now bytes dropped s

none_lent : (c : goal.In-None) → None ≡ next_line c.args.self.now
none_lent c =
    let b = rw c.in-None.is at c.self.invariant in
    sym (first_of_none c.self.inside.ahead.bytes b.next_end) ∙ ap next_line c.self.view_is

pub returns-in-None-clause-value : goal.returns-in-None-clause-value
returns-in-None-clause-value c = none_lent c

pub returns-in-None-clause-stands : goal.returns-in-None-clause-stands
returns-in-None-clause-stands c = λ bytes dropped s. none_lent c ∙ next_frame c.args.self.now bytes dropped s

pub returns-in-Some-clause-short : goal.returns-in-Some-clause-short
returns-in-Some-clause-short c =
    let lent_is : c.without_cr.result.now ≡ without_cr (take c.in-Some.end c.self.inside.ahead.bytes) = c.without_cr.ensures ∙ ap (λ xs. without_cr (take c.in-Some.end xs)) c.as_slice.ensures in
    subst (λ v. length c.without_cr.result.now ≤ v.limit) c.self.view_is (omega (arith, ap length lent_is, line_is_short c.in-Some.is c.self.invariant))

pub returns-in-None-clause-none : goal.returns-in-None-clause-none
returns-in-None-clause-none c =
    let b = rw c.in-None.is at c.self.invariant in
    sym (ap waiting c.self.view_is) ∙ lines_of_none c.self.inside.ahead.bytes b.next_end
