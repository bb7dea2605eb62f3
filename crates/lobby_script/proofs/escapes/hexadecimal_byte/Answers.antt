use Rattle.std.proofs.Common.{◌≡◌, ℕ, ◌+◌, ◌*◌, List, [], ◌∷◌, refl, sym, ap, subst, ◌∙◌}
use Rattle.std.specs.Char.{digit_value}
use Rattle.record_lines.specs.Escapes.{Written, hexadecimal}
use Rattle.lobby_script.proofs.EscapeLemmas.{hexadecimal_parts}
use Rattle.lobby_script.proofs.escapes.hexadecimal_byte.Goals as goal

pub returns-in_err-hexadecimal_digit-2-clause-complete : goal.returns-in_err-hexadecimal_digit-2-clause-complete
returns-in_err-hexadecimal_digit-2-clause-complete c = λ byte behind begins.
    let split = c.in_ok-high.ensures.cases.0 in
    let split-2 = c.in_ok-low.ensures.cases.0 in
    let parts = hexadecimal_parts c.args.text.now c.in_ok-low.behind.now behind c.in_ok-high.high.now c.in_ok-low.low.now byte (cc) begins in
    let found = c.hexadecimal_digit-2.ensures.complete _ (parts.low_small, refl) in
    let none = c.in_err-hexadecimal_digit-2.was in
    absurd cc

written_so : {a b m n : ℕ} {text : List ℕ} → a ≡ m → b ≡ n → Written (16 * m + n) text → Written (16 * a + b) text
written_so {a} {b} {m} {n} {text} e f w = subst (λ x. Written x text) (ap (λ x. 16 * m + x) (sym f) ∙ ap (λ x. 16 * x + b) (sym e)) w

pub returns-clause-sound : goal.returns-clause-sound
returns-clause-sound c =
    let split = c.in_ok-high.ensures.cases.0 in
    let split-2 = c.in_ok-low.ensures.cases.0 in
    let first = c.in_ok-hexadecimal_digit.ensures.sound in
    let next = c.in_ok-hexadecimal_digit-2.ensures.sound in
    (92 ∷ 120 ∷ c.in_ok-high.high.now ∷ c.in_ok-low.low.now ∷ [], written_so first.1 next.1 (hexadecimal first.0 next.0), cc)

pub returns-clause-complete : goal.returns-clause-complete
returns-clause-complete c = λ byte behind begins.
    let split = c.in_ok-high.ensures.cases.0 in
    let split-2 = c.in_ok-low.ensures.cases.0 in
    let parts = hexadecimal_parts c.args.text.now c.in_ok-low.behind.now behind c.in_ok-high.high.now c.in_ok-low.low.now byte (cc) begins in
    let first = c.in_ok-hexadecimal_digit.ensures.sound in
    let next = c.in_ok-hexadecimal_digit-2.ensures.sound in
    (ap (λ n. 16 * n + c.in_ok-hexadecimal_digit-2.field-0) first.1 ∙ ap (λ n. 16 * digit_value c.in_ok-high.high.now + n) next.1 ∙ sym parts.value, parts.behind_is)
