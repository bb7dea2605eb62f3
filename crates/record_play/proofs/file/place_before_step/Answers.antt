use Rattle.std.proofs.Common.{sym, subst, ◌∙◌}
use Rattle.proxy_line.proofs.Parts.{parted_once}
use Rattle.record_play.specs.Files.{IsPlace}
use Rattle.record_play.proofs.file.place_before_step.Goals as goal

pub returns-in_err-place-clause-complete : goal.returns-in_err-place-clause-complete
returns-in_err-place-clause-complete c = λ n step has.
    let parts = parted_once 32 has.0 c.in_ok-digits.digits.now has.1.first c.in_ok-digits.ensures.first (sym has.1.whole ∙ c.in_ok-digits.ensures.whole) in
    let found = c.place.ensures.complete n (subst (λ d. IsPlace d n) parts.0 has.2) in
    let none = c.in_err-place.was in
    absurd cc

pub returns-clause-complete : goal.returns-clause-complete
returns-clause-complete c = λ n step has.
    let parts = parted_once 32 has.0 c.in_ok-digits.digits.now has.1.first c.in_ok-digits.ensures.first (sym has.1.whole ∙ c.in_ok-digits.ensures.whole) in
    let found = c.place.ensures.complete n (subst (λ d. IsPlace d n) parts.0 has.2) in
    let some = c.in_ok-place.was in
    (cc, sym parts.1)
