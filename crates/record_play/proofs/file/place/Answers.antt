use Rattle.std.proofs.Common.{ap, sym, ◌∙◌}
use Rattle.std.specs.Str.{bytes_eq}
use Rattle.proxy_line.proofs.Readings.{text_of}
use Rattle.record_play.proofs.Placing.{no_text, no_place, place_if_written}
use Rattle.record_play.proofs.file.place.Goals as goal

pub returns-in_err-digits : goal.returns-in_err-digits
returns-in_err-digits c =
    rw c.from_residual.ensures (no_text c.from_utf8.result c.args.text.now _ c.from_utf8.ensures.cases (sym c.ok.ensures.value ∙ c.in_err-digits.was))

pub returns-in_err-value : goal.returns-in_err-value
returns-in_err-value c =
    let same = text_of c.from_utf8.result c.args.text.now _ c.in_ok-digits.digits c.from_utf8.ensures.cases (sym c.ok.ensures.value ∙ c.in_ok-digits.was) in
    rw (c.from_residual-in_err-value.ensures, ← same) (no_place c.parse.result c.in_ok-digits.digits.now c.parse.ensures.value.0 (sym c.ok-2.ensures.value ∙ c.in_err-value.was))

pub returns : goal.returns
returns c =
    let same = text_of c.from_utf8.result c.args.text.now _ c.in_ok-digits.digits c.from_utf8.ensures.cases (sym c.ok.ensures.value ∙ c.in_ok-digits.was) in
    rw (c.then_some.ensures, ← same) (place_if_written c.parse.result c.in_ok-digits.digits.now c.in_ok-value.value c.eq.result c.parse.ensures.value.0 (sym c.ok-2.ensures.value ∙ c.in_ok-value.was)
    (c.eq.ensures ∙ ap (λ l. bytes_eq l c.in_ok-digits.digits.now) c.format.ensures.text))
