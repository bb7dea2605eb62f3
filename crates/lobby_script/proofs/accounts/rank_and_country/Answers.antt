use Rattle.std.proofs.Common.{◌≡◌, ◌∙◌, refl, arith}
use Rattle.std.proofs.lemmas.Grind.{common_steps}
use Rattle.lobby_script.proofs.AccountLemmas.{country_parts}
use Rattle.lobby_script.proofs.accounts.rank_and_country.Goals as goal

pub returns-in_err-number-clause-complete : goal.returns-in_err-number-clause-complete
returns-in_err-number-clause-complete c = λ rank country ends.
    let parts = country_parts c.args.text.now c.part_at.result _ c.unwrap_or.result rank country c.unwrap_or.ensures c.part_at.ensures refl refl ends in
    let found = c.number.ensures.complete rank (parts.0, omega (arith, ends.0)) in
    let none = c.in_err-number.was in
    absurd cc

pub returns-in_err-ok-clause-complete : goal.returns-in_err-ok-clause-complete
returns-in_err-ok-clause-complete c = λ rank country ends.
    let parts = country_parts c.args.text.now c.part_at.result _ c.unwrap_or.result rank country c.unwrap_or.ensures c.part_at.ensures refl refl ends in
    let found = c.number.ensures.complete rank (parts.0, omega (arith, ends.0)) in
    let some = c.in_ok-number.was in
    let same : c.in_ok-number.field-0 ≡ rank = cc in
    let small = ends.0 in
    grind (arith, common_steps)

pub returns-clause-complete : goal.returns-clause-complete
returns-clause-complete c = λ rank country ends.
    let parts = country_parts c.args.text.now c.part_at.result _ c.unwrap_or.result rank country c.unwrap_or.ensures c.part_at.ensures refl refl ends in
    let found = c.number.ensures.complete rank (parts.0, omega (arith, ends.0)) in
    let some = c.in_ok-number.was in
    let same : c.in_ok-number.field-0 ≡ rank = cc in
    let byte : c.in_ok-ok.field-0 ≡ c.in_ok-number.field-0 = grind (arith, common_steps) in
    (byte ∙ same, parts.1)
