use Rattle.std.proofs.Common.{◌<◌, ◌∷◌, ◌++◌, [], length, sym, ap, ◌∙◌, subst, arith}
use Rattle.std.proofs.lemmas.List.{take_more_set}
use Rattle.proxy_line.specs.Lines.{IsProxyLine}
use Rattle.proxy_line.proofs.Ends.{no_end}
use Rattle.proxy_line.proofs.half.HalfLine.take.Goals as goal

pub returns-in-Some-clause-step : goal.returns-in-Some-clause-step
returns-in-Some-clause-step c =
    let room : c.self.inside.count < length c.self.inside.bytes = omega (arith, c.self.told, c.self.invariant.0) in
    let taken = take_more_set c.self.inside.bytes c.self.inside.count c.args.byte room ∙ ap (λ l. l ++ c.args.byte ∷ []) c.self.view_is in
    subst (λ l. IsProxyLine l c.in-Some.source) taken c.in-Some.ensures.sound

pub returns-in-None-clause-step : goal.returns-in-None-clause-step
returns-in-None-clause-step c =
    let room : c.self.inside.count < length c.self.inside.bytes = omega (arith, c.self.told, c.self.invariant.0) in
    let taken = take_more_set c.self.inside.bytes c.self.inside.count c.args.byte room ∙ ap (λ l. l ++ c.args.byte ∷ []) c.self.view_is in (
      no_end c.args.self.now c.args.byte _ taken c.else-byte-ne10.either,
      λ source is.
          let found = c.in-None.ensures.complete source (subst (λ l. IsProxyLine l source) (sym taken) is) in absurd cc,
    )
